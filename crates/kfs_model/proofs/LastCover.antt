-- The mark of a byte after a clean run is that of the last entry which covers it.
use Rattle.std.proofs.Common.{◌≡◌, ℕ, ◌+◌, ◌-◌, ◌<◌, ◌≤◌, ◌⊎◌, inl, inr, ⊎_elim, Bool, true, false, cond, not, ◌==◌, ◌&&◌, ◌||◌, ltb, leb, List, [], ◌∷◌, length, get_or, Option, Some, None, option_map, unwrap_or, is_some, is_none, slice_get, Result, Ok, Err, refl, sym, ap, subst, ◌∙◌, arith, eqb-true, eq-eqb}
use Rattle.std.specs.List.{list_any}
use Rattle.std.proofs.lemmas.Option.{slice_get-get_or, slice_get_past}
use Rattle.std.proofs.lemmas.Bool.{not-true}
use Rattle.std.proofs.lemmas.Bool.Decides.{nat_tests}
use Rattle.kfs_model.specs.Header.{Kind, File, Directory}
use Rattle.kfs_model.specs.Table.{get, insert, option_or}
use Rattle.kfs_model.proofs.TableLaws.{get-mapped, get-retain}
use Rattle.kfs_model.specs.Tree.{Tree, Node, Body, FileBody, DirectoryBody, headers, node_header, content_of, is_named}
use Rattle.kfs_model.specs.Sight.{Sight, ClientSight, sight, is_directory}
use Rattle.kfs_model.specs.Access.{Client}
use Rattle.kfs_model.specs.Entry.{Entry, Create, Write, Truncate, Link, Unlink, Rename, Chmod, Regroup}
use Rattle.kfs_model.specs.Check.{Reason, first_fault, checks_of, fault}
use Rattle.kfs_model.specs.Effect.{effect, change_of, without_unnamed, changed_node, new_body, on_content, overwritten, resized}
use Rattle.kfs_model.specs.Run.{Mark, Base, Zero, Payload, places_from, over_marks, marked, base_marks, mapped_body, EntryFault, entry_context, created_by, run_from, run}
use Rattle.kfs_model.specs.LastCover.{covered_by, last_cover, start_mark, LastEntryDecides}
use Rattle.kfs_model.proofs.CleanIsAllowed.{all_pass, passed, left, right}
use Rattle.kfs_model.proofs.CleanFacts.{none_is}
use Rattle.kfs_model.proofs.CellSteps.{node_there}
use Rattle.kfs_model.proofs.Heads.{stays, get-headers}
use Rattle.kfs_model.proofs.NameTable.{at_number-insert}
use Rattle.kfs_model.proofs.Tape.{get_or-past, get_or-places, places_long, below_or_not, resized_read, overwritten_read}

cond_same : {X : Type 0} (b : Bool) (x : X) → cond b x x ≡ x
cond_same true x = refl
cond_same false x = refl

-- ---- a node after an entry

-- what an entry makes of the node with this number, before nodes without a name go
abbrev rewritten : (List Mark → List Mark) → Node Mark → Node Mark
rewritten change node = record node { body = on_content over_marks change node.body }

abbrev with_mode : ℕ → Node Mark → Node Mark
with_mode mode node = record node { mode = mode }

abbrev with_group : ℕ → Node Mark → Node Mark
with_group group node = record node { gid = group }

module _ (client : Client) (index : ℕ) where
  abbrev changed_at : Entry → (k : ℕ) → Option (Node Mark) → Option (Node Mark)
  changed_at (Create d m n kind mode) k o = cond (k == n) (Some (record { mode = mode; uid = client.uid; gid = client.gid; body = new_body over_marks kind })) o
  changed_at (Write n offset payload) k o = cond (k == n) (option_map (rewritten (overwritten over_marks offset (over_marks.payload index payload))) o) o
  changed_at (Truncate n size) k o = cond (k == n) (option_map (rewritten (resized over_marks size)) o) o
  changed_at (Link n d m) k o = o
  changed_at (Unlink d m kind) k o = o
  changed_at (Rename d m e l) k o = o
  changed_at (Chmod n mode) k o = cond (k == n) (option_map (with_mode mode) o) o
  changed_at (Regroup n group) k o = cond (k == n) (option_map (with_group group) o) o

module _ (change : Node Mark → Node Mark) (n : ℕ) (t : Tree Mark) (k : ℕ) where
  abbrev put_in : Option (Node Mark) → Tree Mark
  put_in found = elim found [ None ↦ t | Some node ↦ record { nodes = insert t.nodes n (change node); names = t.names } ]

  same_number : (found : Option (Node Mark)) → get t.nodes n ≡ found → (b : Bool) → (k == n) ≡ b → cond b (option_map change found) (get t.nodes k) ≡ cond b (option_map change (get t.nodes k)) (get t.nodes k)
  same_number found is true e = ap (option_map change) (sym (ap (get t.nodes) (eqb-true k n e) ∙ is))
  same_number found is false e = refl

  get-changed_node : get (changed_node change n t).nodes k ≡ cond (k == n) (option_map change (get t.nodes k)) (get t.nodes k)
  get-changed_node = at (get t.nodes n) refl
    where
      at_none : (b : Bool) → (k == n) ≡ b → get t.nodes n ≡ None → get t.nodes k ≡ cond b (option_map change None) (get t.nodes k)
      at_none true e is = ap (get t.nodes) (eqb-true k n e) ∙ is
      at_none false e is = refl

      at : (found : Option (Node Mark)) → get t.nodes n ≡ found → get (changed_node change n t).nodes k ≡ cond (k == n) (option_map change (get t.nodes k)) (get t.nodes k)
      at None is =
          ap (λ o. get (put_in o).nodes k) is
          ∙ at_none (k == n) refl is ∙ same_number None is (k == n) refl
      at (Some node) is =
          ap (λ o. get (put_in o).nodes k) is
          ∙ at_number-insert t.nodes n (change node) k ∙ same_number (Some node) is (k == n) refl

module _ (client : Client) (index : ℕ) (t : Tree Mark) (k : ℕ) where
  get-change_of : (entry : Entry) → get (change_of over_marks client index entry t).nodes k ≡ changed_at client index entry k (get t.nodes k)
  unfolding change_of
  get-change_of (Create d m n kind mode) = at_number-insert t.nodes n _ k
  get-change_of (Write n offset payload) = get-changed_node (rewritten (overwritten over_marks offset (over_marks.payload index payload))) n t k
  get-change_of (Truncate n size) = get-changed_node (rewritten (resized over_marks size)) n t k
  get-change_of (Link n d m) = refl
  get-change_of (Unlink d m kind) = refl
  get-change_of (Rename d m e l) = refl
  get-change_of (Chmod n mode) = get-changed_node (with_mode mode) n t k
  get-change_of (Regroup n group) = get-changed_node (with_group group) n t k

  get-effect : (entry : Entry) → get (effect over_marks client index entry t).nodes k ≡ cond (stays (change_of over_marks client index entry t).names k) (changed_at client index entry k (get t.nodes k)) None
  unfolding without_unnamed
  get-effect entry =
      get-retain (λ n. (n == 1) || stays_named n) (change_of over_marks client index entry t).nodes k
      ∙ ap (λ o. cond (stays (change_of over_marks client index entry t).names k) o None) (get-change_of entry)
    where
      stays_named : ℕ → Bool
      stays_named n = is_named (change_of over_marks client index entry t).names n

-- ---- the marks of a node after an entry

-- the mark of a byte of a node, zero behind the end
abbrev reads : Option (Node Mark) → (place : ℕ) → Mark
reads o place = get_or (content_of o) place Zero

unwrap_cond : (b : Bool) (x y : Mark) → cond b x y ≡ unwrap_or (cond b (Some x) None) y
unwrap_cond true x y = refl
unwrap_cond false x y = refl

-- what the checks of a clean entry say of the node that it changes
abbrev Meets : Tree Mark → Entry → Type 0
Meets t (Create d m n kind mode) = get t.nodes n ≡ None
Meets t (Write n offset payload) = (cells : List Mark) × (mode uid gid : ℕ) × (get t.nodes n ≡ Some (record { mode = mode; uid = uid; gid = gid; body = FileBody cells }))
Meets t (Truncate n size) = Unit {0}
Meets t (Link n d m) = Unit {0}
Meets t (Unlink d m kind) = Unit {0}
Meets t (Rename d m e k) = Unit {0}
Meets t (Chmod n mode) = Unit {0}
Meets t (Regroup n group) = Unit {0}

created_reads : (client : Client) (mode : ℕ) (kind : Kind) (place : ℕ) → reads (Some (record { mode = mode; uid = client.uid; gid = client.gid; body = new_body over_marks kind })) place ≡ Zero
created_reads client mode File place = refl
created_reads client mode Directory place = refl

truncated_reads : (size : ℕ) (o : Option (Node Mark)) (place : ℕ) → reads (option_map (rewritten (resized over_marks size)) o) place ≡ cond (leb size place) Zero (reads o place)
truncated_reads size None place = sym (cond_same (leb size place) Zero)
truncated_reads size (Some node) place = at node.body
  where
    at : (body : Body Mark) → reads (Some (rewritten (resized over_marks size) (record node { body = body }))) place ≡ cond (leb size place) Zero (reads (Some (record node { body = body })) place)
    at (FileBody cells) = resized_read size cells place
    at DirectoryBody = sym (cond_same (leb size place) Zero)

mode_reads : (mode : ℕ) (o : Option (Node Mark)) (place : ℕ) → reads (option_map (with_mode mode) o) place ≡ reads o place
mode_reads mode None place = refl
mode_reads mode (Some node) place = refl

group_reads : (group : ℕ) (o : Option (Node Mark)) (place : ℕ) → reads (option_map (with_group group) o) place ≡ reads o place
group_reads group None place = refl
group_reads group (Some node) place = refl

module _ (client : Client) (index : ℕ) (t : Tree Mark) (k place : ℕ) where
  reads_after : (entry : Entry) → Meets t entry → reads (changed_at client index entry k (get t.nodes k)) place ≡ unwrap_or (covered_by index entry k place) (reads (get t.nodes k) place)
  unfolding covered_by
  reads_after (Create d m n kind mode) meets = at (k == n) refl
    where
      at : (b : Bool) → (k == n) ≡ b → reads (cond b (Some (record { mode = mode; uid = client.uid; gid = client.gid; body = new_body over_marks kind })) (get t.nodes k)) place ≡ reads (get t.nodes k) place
      at true e = created_reads client mode kind place ∙ sym (ap (λ o. reads o place) (ap (get t.nodes) (eqb-true k n e) ∙ meets))
      at false e = refl
  reads_after (Write n offset payload) meets = at (k == n) refl
    where
      covered : Bool
      covered = leb offset place && ltb place (offset + length payload)

      at : (b : Bool) → (k == n) ≡ b → reads (cond b (option_map (rewritten (overwritten over_marks offset (over_marks.payload index payload))) (get t.nodes k)) (get t.nodes k)) place
          ≡ unwrap_or (cond (b && leb offset place && ltb place (offset + length payload)) (Some (Payload index (place - offset))) None) (reads (get t.nodes k) place)
      at true e =
          let (cells, mode, uid, gid, is) = meets in
          let here : get t.nodes k ≡ Some (record { mode = mode; uid = uid; gid = gid; body = FileBody cells }) = ap (get t.nodes) (eqb-true k n e) ∙ is in
          ap (λ o. reads (option_map (rewritten (overwritten over_marks offset (over_marks.payload index payload))) o) place) here
          ∙ overwritten_read index offset payload cells place
          ∙ unwrap_cond (leb offset place && ltb place (offset + length payload)) (Payload index (place - offset)) (get_or cells place Zero)
          ∙ ap (λ o. unwrap_or (cond (leb offset place && ltb place (offset + length payload)) (Some (Payload index (place - offset))) None) (reads o place)) (sym here)
      at false e = refl
  reads_after (Truncate n size) meets = at (k == n)
    where
      at : (b : Bool) → reads (cond b (option_map (rewritten (resized over_marks size)) (get t.nodes k)) (get t.nodes k)) place ≡ unwrap_or (cond (b && leb size place) (Some Zero) None) (reads (get t.nodes k) place)
      at true = truncated_reads size (get t.nodes k) place ∙ unwrap_cond (leb size place) Zero (reads (get t.nodes k) place)
      at false = refl
  reads_after (Link n d m) meets = refl
  reads_after (Unlink d m kind) meets = refl
  reads_after (Rename d m e l) meets = refl
  reads_after (Chmod n mode) meets = at (k == n)
    where
      at : (b : Bool) → reads (cond b (option_map (with_mode mode) (get t.nodes k)) (get t.nodes k)) place ≡ reads (get t.nodes k) place
      at true = mode_reads mode (get t.nodes k) place
      at false = refl
  reads_after (Regroup n group) meets = at (k == n)
    where
      at : (b : Bool) → reads (cond b (option_map (with_group group) (get t.nodes k)) (get t.nodes k)) place ≡ reads (get t.nodes k) place
      at true = group_reads group (get t.nodes k) place
      at false = refl

-- ---- what a clean entry finds

no_node : (t : Tree Mark) (n : ℕ) → get (headers t) n ≡ None → get t.nodes n ≡ None
no_node t n shown = at (get t.nodes n) (sym (get-headers t n) ∙ shown)
  where
    at : (o : Option (Node Mark)) → option_map (node_header t.names n) o ≡ None → o ≡ None
    at None e = refl
    at (Some node) e = cc

module _ (client : Client) (seen : ClientSight) (created : List ℕ) (t : Tree Mark) where
  clean_meets : (entry : Entry) → first_fault (entry_context client seen (sight t) created) entry ≡ None → Meets t entry
  unfolding checks_of fault
  clean_meets (Create d m n kind mode) clean =
      let pass = all_pass (entry_context client seen (sight t) created) _ clean in
      no_node t n (none_is _ (right _ _ (left _ _ (passed _ _ pass.1.1.1.1.1.1.1.0))))
  clean_meets (Write n offset payload) clean =
      let pass = all_pass (entry_context client seen (sight t) created) _ clean in
      let (node, there) = node_there t n (passed _ _ pass.0) in
      let file : is_directory (Some (node_header t.names n node)) ≡ false = sym (ap is_directory (get-headers t n ∙ ap (option_map (node_header t.names n)) there)) ∙ not-true _ (passed _ _ pass.1.0) in
      at node.mode node.uid node.gid node.body there file
    where
      at : (mode uid gid : ℕ) (body : Body Mark) → get t.nodes n ≡ Some (record { mode = mode; uid = uid; gid = gid; body = body }) → is_directory (Some (node_header t.names n (record { mode = mode; uid = uid; gid = gid; body = body }))) ≡ false
          → (cells : List Mark) × (mode uid gid : ℕ) × (get t.nodes n ≡ Some (record { mode = mode; uid = uid; gid = gid; body = FileBody cells }))
      at mode uid gid (FileBody cells) there file = (cells, mode, uid, gid, there)
      at mode uid gid DirectoryBody there file = cc
  clean_meets (Truncate n size) clean = tt
  clean_meets (Link n d m) clean = tt
  clean_meets (Unlink d m kind) clean = tt
  clean_meets (Rename d m e k) clean = tt
  clean_meets (Chmod n mode) clean = tt
  clean_meets (Regroup n group) clean = tt

-- ---- a number that was a node once is none again after it went

module _ (client : Client) (seen : ClientSight) (k : ℕ) where
  -- a node of the tree before the log, or one that the log created
  abbrev known : List ℕ → Bool
  known created = is_some (seen.sight.head k) || list_any (λ c. c == k) created

  more : (a b c : Bool) → (a || c) ≡ true → (a || (b || c)) ≡ true
  more true b c h = refl
  more false true c h = refl
  more false false c h = h

  known_after : (entry : Entry) (created : List ℕ) → known created ≡ true → known (created_by entry created) ≡ true
  known_after (Create d m n kind mode) created h = more (is_some (seen.sight.head k)) (n == k) (list_any (λ c. c == k) created) h
  known_after (Write n offset payload) created h = h
  known_after (Truncate n size) created h = h
  known_after (Link n d m) created h = h
  known_after (Unlink d m kind) created h = h
  known_after (Rename d m e l) created h = h
  known_after (Chmod n mode) created h = h
  known_after (Regroup n group) created h = h

  made_known : (n : ℕ) (created : List ℕ) → (k == n) ≡ true → known (n ∷ created) ≡ true
  made_known n created e = at (is_some (seen.sight.head k)) (n == k) (eq-eqb n k (sym (eqb-true k n e)))
    where
      at : (a b : Bool) → b ≡ true → (a || (b || list_any (λ c. c == k) created)) ≡ true
      at true b h = refl
      at false true h = refl
      at false false h = cc

  option_map_some : (change : Node Mark → Node Mark) (o : Option (Node Mark)) (node : Node Mark) → option_map change o ≡ Some node → (old : Node Mark) × (o ≡ Some old)
  option_map_some change None node e = cc
  option_map_some change (Some old) node e = (old, refl)

  -- what stands at a number after an entry stood there before, or the entry created it
  known_at : (index : ℕ) (entry : Entry) (created : List ℕ) (o : Option (Node Mark)) → ((old : Node Mark) → o ≡ Some old → known created ≡ true)
      → (node : Node Mark) → changed_at client index entry k o ≡ Some node → known (created_by entry created) ≡ true
  known_at index (Create d m n kind mode) created o before node is = at (k == n) refl is
    where
      at : (b : Bool) → (k == n) ≡ b → cond b (Some (record { mode = mode; uid = client.uid; gid = client.gid; body = new_body over_marks kind })) o ≡ Some node → known (n ∷ created) ≡ true
      at true e is = made_known n created e
      at false e is = known_after (Create d m n kind mode) created (before node is)
  known_at index (Write n offset payload) created o before node is = at (k == n) is
    where
      at : (b : Bool) → cond b (option_map (rewritten (overwritten over_marks offset (over_marks.payload index payload))) o) o ≡ Some node → known created ≡ true
      at true is = let (old, was) = option_map_some (rewritten (overwritten over_marks offset (over_marks.payload index payload))) o node is in before old was
      at false is = before node is
  known_at index (Truncate n size) created o before node is = at (k == n) is
    where
      at : (b : Bool) → cond b (option_map (rewritten (resized over_marks size)) o) o ≡ Some node → known created ≡ true
      at true is = let (old, was) = option_map_some (rewritten (resized over_marks size)) o node is in before old was
      at false is = before node is
  known_at index (Link n d m) created o before node is = before node is
  known_at index (Unlink d m kind) created o before node is = before node is
  known_at index (Rename d m e l) created o before node is = before node is
  known_at index (Chmod n mode) created o before node is = at (k == n) is
    where
      at : (b : Bool) → cond b (option_map (with_mode mode) o) o ≡ Some node → known created ≡ true
      at true is = let (old, was) = option_map_some (with_mode mode) o node is in before old was
      at false is = before node is
  known_at index (Regroup n group) created o before node is = at (k == n) is
    where
      at : (b : Bool) → cond b (option_map (with_group group) o) o ≡ Some node → known created ≡ true
      at true is = let (old, was) = option_map_some (with_group group) o node is in before old was
      at false is = before node is

  -- a known number is created by no clean entry
  unknown : {X : Type 0} (o : Option X) (b c : Bool) → (is_none o && b && not c) ≡ true → (is_some o || c) ≡ true → ⊥
  unknown None b true free is = false_free b free
    where
      false_free : (b : Bool) → (b && false) ≡ true → ⊥
      false_free true e = cc
      false_free false e = cc
  unknown None b false free is = cc
  unknown (Some x) b c free is = cc

  none_at : (index : ℕ) (t : Tree Mark) (entry : Entry) (created : List ℕ) → known created ≡ true → first_fault (entry_context client seen (sight t) created) entry ≡ None → changed_at client index entry k None ≡ None
  unfolding checks_of fault
  none_at index t (Create d m n kind mode) created is clean = at (k == n) refl
    where
      at : (b : Bool) → (k == n) ≡ b → ◌≡◌ {A = Option (Node Mark)} (cond b (Some (record { mode = mode; uid = client.uid; gid = client.gid; body = new_body over_marks kind })) None) None
      at true e =
          let pass = all_pass (entry_context client seen (sight t) created) _ clean in
          let free = passed _ _ pass.1.1.1.1.1.1.1.0 in
          absurd (unknown (seen.sight.head n) (is_none (get (headers t) n)) (list_any (λ c. c == n) created) free (subst (λ j. (is_some (seen.sight.head j) || list_any (λ c. c == j) created) ≡ true) (eqb-true k n e) is))
      at false e = refl
  none_at index t (Write n offset payload) created is clean = cond_same (k == n) None
  none_at index t (Truncate n size) created is clean = cond_same (k == n) None
  none_at index t (Link n d m) created is clean = refl
  none_at index t (Unlink d m kind) created is clean = refl
  none_at index t (Rename d m e l) created is clean = refl
  none_at index t (Chmod n mode) created is clean = cond_same (k == n) None
  none_at index t (Regroup n group) created is clean = cond_same (k == n) None

  -- one step of a run without a fault
  record RunStep (index : ℕ) (created : List ℕ) (t : Tree Mark) (entry : Entry) (entries : List Entry) (after : Tree Mark) : Type 0 where
    clean : first_fault (entry_context client seen (sight t) created) entry ≡ None
    rest : run_from over_marks client seen (index + 1) (created_by entry created) (effect over_marks client index entry t) entries ≡ Ok after

  run_step : (index : ℕ) (created : List ℕ) (t : Tree Mark) (entry : Entry) (entries : List Entry) (after : Tree Mark) → run_from over_marks client seen index created t (entry ∷ entries) ≡ Ok after → RunStep index created t entry entries after
  unfolding run_from
  run_step index created t entry entries after ran = at (first_fault (entry_context client seen (sight t) created) entry) refl ran
    where
      at : (found : Option Reason) → first_fault (entry_context client seen (sight t) created) entry ≡ found
          → ◌≡◌ {A = Result (Tree Mark) EntryFault} (elim found [ None ↦ run_from over_marks client seen (index + 1) (created_by entry created) (effect over_marks client index entry t) entries | Some reason ↦ Err (record { entry = index; reason = reason }) ]) (Ok after)
          → RunStep index created t entry entries after
      at None is ran = record { clean = is; rest = ran }
      at (Some reason) is ran = cc

  run_ends : (index : ℕ) (created : List ℕ) (t after : Tree Mark) → run_from over_marks client seen index created t [] ≡ Ok after → t ≡ after
  unfolding run_from
  run_ends index created t after ran = cc

  gone : (entries : List Entry) (index : ℕ) (created : List ℕ) (t after : Tree Mark) → known created ≡ true → get t.nodes k ≡ None → run_from over_marks client seen index created t entries ≡ Ok after → get after.nodes k ≡ None
  gone [] index created t after is none ran = ap (λ u. get u.nodes k) (sym (run_ends index created t after ran)) ∙ none
  gone (entry ∷ entries) index created t after is none ran =
      let step = run_step index created t entry entries after ran in
      let still = get-effect client index t k entry
      ∙ ap (λ o. cond (stays (change_of over_marks client index entry t).names k) (changed_at client index entry k o) None) none
      ∙ ap (λ o. cond (stays (change_of over_marks client index entry t).names k) o None) (none_at index t entry created is step.clean)
      ∙ cond_same (stays (change_of over_marks client index entry t).names k) None in
      gone entries (index + 1) (created_by entry created) (effect over_marks client index entry t) after (known_after entry created is) still step.rest

  -- ---- the law

  -- the node is what the entry makes of it, or it went
  after_either : (index : ℕ) (created : List ℕ) (t : Tree Mark) (entry : Entry) → ((old : Node Mark) → get t.nodes k ≡ Some old → known created ≡ true)
      → (get (effect over_marks client index entry t).nodes k ≡ changed_at client index entry k (get t.nodes k))
      ⊎ ((get (effect over_marks client index entry t).nodes k ≡ None) × (known (created_by entry created) ≡ true))
  after_either index created t entry before = at (stays (change_of over_marks client index entry t).names k) (changed_at client index entry k (get t.nodes k)) refl (get-effect client index t k entry)
    where
      at : (b : Bool) (o : Option (Node Mark)) → changed_at client index entry k (get t.nodes k) ≡ o
          → get (effect over_marks client index entry t).nodes k ≡ cond b (changed_at client index entry k (get t.nodes k)) None
          → (get (effect over_marks client index entry t).nodes k ≡ changed_at client index entry k (get t.nodes k))
          ⊎ ((get (effect over_marks client index entry t).nodes k ≡ None) × (known (created_by entry created) ≡ true))
      at true o is now = inl now
      at false None is now = inl (now ∙ sym is)
      at false (Some node) is now = inr (now, known_at index entry created (get t.nodes k) before node is)

  module _ (place : ℕ) where
    unwrap_option_or : (a b : Option Mark) (x : Mark) → unwrap_or (option_or a b) x ≡ unwrap_or a (unwrap_or b x)
    unwrap_option_or None b x = refl
    unwrap_option_or (Some y) b x = refl

    run_reads : (entries : List Entry) (index : ℕ) (created : List ℕ) (t after : Tree Mark) → ((old : Node Mark) → get t.nodes k ≡ Some old → known created ≡ true)
        → run_from over_marks client seen index created t entries ≡ Ok after → (node : Node Mark) → get after.nodes k ≡ Some node
        → reads (get after.nodes k) place ≡ unwrap_or (last_cover index entries k place) (reads (get t.nodes k) place)
    unfolding last_cover
    run_reads [] index created t after before ran node there = ap (λ u. reads (get u.nodes k) place) (sym (run_ends index created t after ran))
    run_reads (entry ∷ entries) index created t after before ran node there =
        let step = run_step index created t entry entries after ran in
        let next = effect over_marks client index entry t in
        let known_next = λ (old : Node Mark) (is : get next.nodes k ≡ Some old). still_known (after_either index created t entry before) old is in
        let rest = run_reads entries (index + 1) (created_by entry created) next after known_next step.rest node there in
        rest ∙ ⊎_elim
        (λ (same : get next.nodes k ≡ changed_at client index entry k (get t.nodes k)).
        ap (λ o. unwrap_or (last_cover (index + 1) entries k place) (reads o place)) same
        ∙ ap (unwrap_or (last_cover (index + 1) entries k place)) (reads_after client index t k place entry (clean_meets client seen created t entry step.clean))
        ∙ sym (unwrap_option_or (last_cover (index + 1) entries k place) (covered_by index entry k place) (reads (get t.nodes k) place)))
        (λ (went : (get next.nodes k ≡ None) × (known (created_by entry created) ≡ true)).
        let none = gone entries (index + 1) (created_by entry created) next after went.1 went.0 step.rest in
        cc)
        (after_either index created t entry before)
      where
        still_known : ((get (effect over_marks client index entry t).nodes k ≡ changed_at client index entry k (get t.nodes k))
            ⊎ ((get (effect over_marks client index entry t).nodes k ≡ None) × (known (created_by entry created) ≡ true)))
            → (old : Node Mark) → get (effect over_marks client index entry t).nodes k ≡ Some old → known (created_by entry created) ≡ true
        still_known (inl same) old is = known_at index entry created (get t.nodes k) before old (sym same ∙ is)
        still_known (inr went) old is = went.1

-- ---- the whole log

below : (i n : ℕ) → i < n → ltb i n ≡ true
below i n h = grind (arith, nat_tests)

not_below : (i n : ℕ) → n ≤ i → ltb i n ≡ false
not_below i n h = grind (arith, nat_tests)

start_reads : (before : Tree ℕ) (k place : ℕ) → reads (get (marked before).nodes k) place ≡ start_mark before k place
start_reads before k place = ap (λ o. reads o place) (get-mapped _ before.nodes k) ∙ at (get before.nodes k)
  where
    at_body : (mode uid gid : ℕ) (body : Body ℕ) → reads (Some (record { mode = mode; uid = uid; gid = gid; body = mapped_body (base_marks k 0) body })) place ≡ cond (ltb place (length (content_of (Some (record { mode = mode; uid = uid; gid = gid; body = body }))))) (Base k place) Zero
    at_body mode uid gid (FileBody cells) = ⊎_elim
        (λ (h : place < length cells). get_or-places (Base k) 0 cells place h ∙ ap (Base k) (let e : 0 + place ≡ place = omega arith in e) ∙ ap (λ b. cond b (Base k place) Zero) (sym (below place (length cells) h)))
        (λ (h : length cells ≤ place). get_or-past (places_from (Base k) 0 cells) place Zero (omega (arith, places_long (Base k) 0 cells)) ∙ ap (λ b. cond b (Base k place) Zero) (sym (not_below place (length cells) h)))
        (below_or_not place (length cells))
    at_body mode uid gid DirectoryBody = ap (λ b. cond b (Base k place) Zero) (sym (not_below place 0 (omega arith)))

    at : (o : Option (Node ℕ)) → reads (option_map (λ (node : Node ℕ). record { mode = node.mode; uid = node.uid; gid = node.gid; body = mapped_body (base_marks k 0) node.body }) o) place ≡ cond (ltb place (length (content_of o))) (Base k place) Zero
    at None = ap (λ b. cond b (Base k place) Zero) (sym (not_below place 0 (omega arith)))
    at (Some node) = at_body node.mode node.uid node.gid node.body

shows_node : (before : Tree ℕ) (k : ℕ) (old : Node Mark) → get (marked before).nodes k ≡ Some old → is_some (get (headers before) k) ≡ true
shows_node before k old is = ap is_some (get-headers before k) ∙ at (get before.nodes k) (sym (get-mapped _ before.nodes k) ∙ is)
  where
    at : (o : Option (Node ℕ)) → option_map (λ (node : Node ℕ). record { mode = node.mode; uid = node.uid; gid = node.gid; body = mapped_body (base_marks k 0) node.body }) o ≡ Some old → is_some (option_map (node_header before.names k) o) ≡ true
    at None e = cc
    at (Some node) e = refl

module _ (client : Client) (seen : ClientSight) (before : Tree ℕ) (entries : List Entry) (after : Tree Mark) (opens : seen.sight ≡ sight before) (ran : run over_marks client seen (marked before) entries ≡ Ok after) where
  node_reads : (k place : ℕ) (node : Node Mark) → get after.nodes k ≡ Some node → reads (get after.nodes k) place ≡ unwrap_or (last_cover 0 entries k place) (start_mark before k place)
  node_reads k place node there =
      run_reads client seen k place entries 0 [] (marked before) after
      (λ old is. let shown = ap (λ (s : Sight). is_some (s.head k)) opens ∙ shows_node before k old is in ap (λ b. b || false) shown) ran node there
      ∙ ap (unwrap_or (last_cover 0 entries k place)) (start_reads before k place)

  -- a byte of a file has the mark of the last entry that covers it, and the mark it had where there is none
  pub mark_is : LastEntryDecides before entries after
  mark_is k place = at (get after.nodes k) refl
    where
      at : (o : Option (Node Mark)) → get after.nodes k ≡ o → slice_get (content_of o) place ≡ cond (ltb place (length (content_of o))) (Some (unwrap_or (last_cover 0 entries k place) (start_mark before k place))) None
      at None is = ap (λ b. cond b (Some (unwrap_or (last_cover 0 entries k place) (start_mark before k place))) None) (sym (not_below place 0 (omega arith)))
      at (Some node) is = ⊎_elim
          (λ (h : place < length (content_of (Some node))).
          slice_get-get_or (content_of (Some node)) place Zero h
          ∙ ap Some (ap (λ o. reads o place) (sym is) ∙ node_reads k place node is)
          ∙ ap (λ b. cond b (Some (unwrap_or (last_cover 0 entries k place) (start_mark before k place))) None) (sym (below place (length (content_of (Some node))) h)))
          (λ (h : length (content_of (Some node)) ≤ place).
          slice_get_past (content_of (Some node)) place h
          ∙ ap (λ b. cond b (Some (unwrap_or (last_cover 0 entries k place) (start_mark before k place))) None) (sym (not_below place (length (content_of (Some node))) h)))
          (below_or_not place (length (content_of (Some node))))
