-- A name taken away keeps a sound tree sound, where no directory goes that has names, and moves what the cells show as said.
use Rattle.std.proofs.Common.{◌≡◌, ◌≢◌, ℕ, zero, suc, ◌+◌, ◌-◌, ◌≤◌, Bool, true, false, cond, ◌||◌, ◌==◌, ltb, leb, List, Option, Some, None, option_map, option_and_then, IsTrue, refl, sym, ap, subst, ◌∙◌, arith, eqb-true, ne_eqb, lt-ltb, le-ltb}
use Rattle.std.proofs.lemmas.Bool.{eqb-false, le-leb, lt-leb}
use Rattle.kfs_model.specs.Header.{Kind, File, Directory, Header}
use Rattle.kfs_model.specs.Table.{get, remove}
use Rattle.kfs_model.specs.Tree.{Tree, Node, Body, FileBody, DirectoryBody, NameTable, headers, node_header, target, name_count, entry_count, is_named}
use Rattle.kfs_model.specs.Sight.{sight, is_directory, parent_in}
use Rattle.kfs_model.specs.Effect.{without_unnamed, with_names}
use Rattle.kfs_model.specs.Soundness.{Climbs, IsSound}
use Rattle.kfs_model.specs.SeenAfter.{put_at, unlinked, seen_without}
use Rattle.kfs_model.proofs.NameTable.{target-remove, target_is_named, target_is_entry, is_named_counts}
use Rattle.kfs_model.proofs.NameRemoved.{was_target, kept_target, others_count, own_count, count_shifted}
use Rattle.kfs_model.proofs.Heads.{stays, named_stays, get-headers, kept_head, directory_stays, directory_count, parent_kept, parent_of_none, parent_named}
use Rattle.kfs_model.proofs.NameStep.{left_head, left_head_is, NamesKept, names_kept_sound, stays_named}

module _ {B : Type 0} (t : Tree B) (sound : IsSound t) (d : ℕ) (m : List ℕ) (n : ℕ) (there : target t.names d m ≡ Some n)
    (empty : IsTrue (is_directory (get (headers t) n)) → entry_count t.names n ≡ 0) where
  abbrev head : ℕ → Option Header
  head = get (headers t)

  abbrev after : NameTable
  after = remove t.names (d, m)

  abbrev heads : ℕ → Option Header
  heads = put_at n (option_and_then unlinked (head n)) head

  no_root : n ≢ 1
  no_root = (sound.names_sound d m n there).not_root

  node_found : (node : Node B) × (get t.nodes n ≡ Some node)
  node_found = at (get t.nodes n) refl (sound.names_sound d m n there).node
    where
      at : (o : Option (Node B)) → get t.nodes n ≡ o → (h : Header) × (head n ≡ Some h) → (node : Node B) × (get t.nodes n ≡ Some node)
      at None is shown = let none : head n ≡ None = get-headers t n ∙ ap (option_map (node_header t.names n)) is in cc (shown.1, none)
      at (Some node) is shown = (node, is)

  stays_if_named : stays after n ≡ ltb 0 (name_count after n)
  stays_if_named = ap (λ b. b || is_named after n) (ne_eqb n 1 no_root) ∙ is_named_counts after n

  -- what a file shows whose count goes from one number down to another
  last_or_not : (f : Node B → Header) (node : Node B) (fewer : ℕ) (all : ℕ) (h : Header) → fewer + 1 ≡ all → f node ≡ record h { links = fewer }
      → option_map f (cond (ltb 0 fewer) (Some node) None) ≡ cond (leb all 1) None (Some (record h { links = all - 1 }))
  last_or_not f node zero all h one is = ap (λ b. cond b None (Some (record h { links = all - 1 }))) (sym (le-leb all 1 (omega arith)))
  last_or_not f node (suc fewer) all h one is =
      ap (λ b. option_map f (cond b (Some node) None)) (lt-ltb 0 (suc fewer) (omega arith)) ∙ ap Some is
      ∙ ap (λ links. Some (record h { links = links })) (let e : suc fewer ≡ all - 1 = omega arith in e)
      ∙ ap (λ b. cond b None (Some (record h { links = all - 1 }))) (sym (lt-leb all 1 (omega arith)))

  unlinked_node : (node : Node B) → get t.nodes n ≡ Some node → option_map (node_header after n) (cond (stays after n) (Some node) None) ≡ unlinked (node_header t.names n node)
  unlinked_node node is = ap (λ b. option_map (node_header after n) (cond b (Some node) None)) stays_if_named ∙ at node.body (get-headers t n ∙ ap (option_map (node_header t.names n)) is)
    where
      at : (body : Body B) → head n ≡ Some (node_header t.names n (record node { body = body }))
          → option_map (node_header after n) (cond (ltb 0 (name_count after n)) (Some (record node { body = body })) None) ≡ unlinked (node_header t.names n (record node { body = body }))
      at (FileBody cells) shown = last_or_not (node_header after n) (record node { body = FileBody cells }) (name_count after n) (name_count t.names n) (node_header t.names n (record node { body = FileBody cells })) (own_count t.names d m n there) refl
      at DirectoryBody shown =
          let one = sound.directories n (ap is_directory shown) no_root in
          let none : name_count after n ≤ 0 = omega (arith, own_count t.names d m n there) in
          ap (λ b. option_map (node_header after n) (cond b (Some (record node { body = DirectoryBody })) None)) (le-ltb 0 (name_count after n) none)

  shown_at : (k : ℕ) (b : Bool) → (k == n) ≡ b → option_map (node_header after k) (cond (stays after k) (get t.nodes k) None) ≡ cond b (option_and_then unlinked (head n)) (head k)
  shown_at k true same =
      let (node, is) = node_found in
      subst (λ k. option_map (node_header after k) (cond (stays after k) (get t.nodes k) None) ≡ option_and_then unlinked (head n)) (sym (eqb-true k n same))
      (ap (λ o. option_map (node_header after n) (cond (stays after n) o None)) is ∙ unlinked_node node is ∙ sym (ap (option_and_then unlinked) (get-headers t n ∙ ap (option_map (node_header t.names n)) is)))
  shown_at k false other = kept_head t sound after k (others_count t.names d m n there k other)

  head_after : (k : ℕ) → left_head t after k ≡ heads k
  head_after k = left_head_is t after k ∙ shown_at k (k == n) refl

  -- what is left of a node is no directory
  left_is_file : (o : Option Header) → is_directory (option_and_then unlinked o) ≡ false
  left_is_file None = refl
  left_is_file (Some h) = by_kind h.kind
    where
      at_limit : (b : Bool) (g : Header) → is_directory (Some g) ≡ false → is_directory (cond b None (Some g)) ≡ false
      at_limit true g file = refl
      at_limit false g file = file

      by_kind : (kind : Kind) → is_directory (unlinked (record h { kind = kind })) ≡ false
      by_kind File = at_limit (leb h.links 1) (record h { kind = File; links = h.links - 1 }) refl
      by_kind Directory = refl

  parent_after : (k : ℕ) → parent_in heads after k ≡ put_at n None (parent_in head t.names) k
  parent_after k = at (k == n) refl
    where
      at : (b : Bool) → (k == n) ≡ b → parent_in heads after k ≡ cond b None (parent_in head t.names k)
      at true same = parent_of_none heads after k (ap (λ b. is_directory (cond b (option_and_then unlinked (head n)) (head k))) same ∙ left_is_file (head n))
      at false other =
          parent_kept head t.names sound heads after k (ap (λ b. cond b (option_and_then unlinked (head n)) (head k)) other) (others_count t.names d m n there k other)
          (λ e k' is. kept_target t.names d m n there e k' k (eqb-false k n other) is)

  parent_left : (k : ℕ) → parent_in (left_head t after) after k ≡ put_at n None (parent_in head t.names) k
  parent_left k = ap (λ heads. parent_in heads after k) (λ i k. head_after k i) ∙ parent_after k

  pub unlink_seen : sight (without_unnamed (with_names after t)) ≡ seen_without d m n (sight t)
  unfolding without_unnamed
  unlink_seen = λ i. record {
    head = λ k. head_after k i;
    name = λ e k. target-remove t.names d m e k i;
    count = λ e. count_shifted t.names d m n there e i;
    parent = λ k. parent_left k i;
  }

  -- ---- the tree after it is sound

  -- a directory that holds a name isn't the node
  pub holder_apart : (e : ℕ) (k : List ℕ) (x : ℕ) → target t.names e k ≡ Some x → (e == n) ≡ false
  holder_apart e k x is =
      ne_eqb e n (λ same.
      let directory = (sound.names_sound e k x is).holder in
      let none = empty (subst (λ e. IsTrue (is_directory (head e))) same directory) in
      let some : 1 ≤ entry_count t.names n = subst (λ e. 1 ≤ entry_count t.names e) same (target_is_entry t.names e k x is) in
      absurd (omega arith))

  fewer : (k : ℕ) → name_count after k ≤ name_count t.names k
  fewer k = at (k == n) refl
    where
      at : (b : Bool) → (k == n) ≡ b → name_count after k ≤ name_count t.names k
      at true same = subst (λ k. name_count after k ≤ name_count t.names k) (sym (eqb-true k n same)) (omega (arith, own_count t.names d m n there))
      at false other = omega (arith, others_count t.names d m n there k other)

  stays_on : (k : ℕ) → (k == n) ≡ false → stays t.names k ≡ true → stays after k ≡ true
  stays_on k other stay = at (k == 1) refl
    where
      at : (b : Bool) → (k == 1) ≡ b → stays after k ≡ true
      at true root = ap (λ b. b || is_named after k) root
      at false apart = named_stays after k (let some = stays_named t.names k stay (eqb-false k 1 apart) in omega (arith, others_count t.names d m n there k other))

  -- a climb that doesn't begin at the node doesn't meet it
  climb_apart : (steps k : ℕ) → (k == n) ≡ false → Climbs (parent_in head t.names) steps k 1 → Climbs (parent_in (left_head t after) after) steps k 1
  climb_apart zero k other climb = climb
  climb_apart (suc steps) k other climb =
      let (up, is, rest) = climb in
      let held = parent_named head t.names sound k up is in
      (up, parent_left k ∙ ap (λ b. cond b None (parent_in head t.names k)) other ∙ is, climb_apart steps up (holder_apart up held.0 k held.1) rest)

  stays_apart : (k : ℕ) → IsTrue (is_directory (head k)) → stays after k ≡ true → (k == n) ≡ false
  stays_apart k directory stay =
      ne_eqb k n (λ same.
      let one = sound.directories n (subst (λ k. IsTrue (is_directory (head k))) same directory) no_root in
      let some = stays_named after n (subst (λ k. stays after k ≡ true) same stay) no_root in
      let own = own_count t.names d m n there in
      absurd (omega arith))

  names_kept : NamesKept t after
  names_kept = record {
    spelled = λ e k x is. (sound.names_sound e k x (was_target t.names d m n there e k x is)).spelled;
    holder = λ e k x is.
        let was = was_target t.names d m n there e k x is in
        let directory = (sound.names_sound e k x was).holder in
        (directory, stays_on e (holder_apart e k x was) (directory_stays t sound e directory));
    node = λ e k x is.
        let was = sound.names_sound e k x (was_target t.names d m n there e k x is) in
        (was.node.0, was.node.1, was.not_root, target_is_named after e k x is);
    directories = λ k directory. let most = directory_count head t.names sound k directory in omega (arith, fewer k);
    files = λ k file. let most = (sound.files k file).1 in omega (arith, fewer k);
    reaches = λ k directory stay.
        let (steps, climb) = sound.reaches k directory in
        (steps, climb_apart steps k (stays_apart k directory stay) climb);
  }

  pub unlink_sound : IsSound (without_unnamed (with_names after t))
  unlink_sound = names_kept_sound t after sound names_kept
