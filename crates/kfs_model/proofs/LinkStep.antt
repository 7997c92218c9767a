-- A clean Link keeps a sound tree sound and moves what the cells show as said.
use Rattle.std.proofs.Common.{◌≡◌, ℕ, ◌+◌, ◌<◌, ◌≤◌, Bool, true, false, cond, ◌==◌, pos, length, List, Option, Some, None, option_map, IsTrue, refl, sym, ap, subst, ◌∙◌, arith, eqb-true, ne_eqb}
use Rattle.std.proofs.lemmas.Bool.{eqb-false, false≢true, or_left}
use Rattle.kfs_model.specs.Header.{File, Header}
use Rattle.kfs_model.specs.Table.{get, insert}
use Rattle.kfs_model.specs.Tree.{Tree, Node, Body, FileBody, DirectoryBody, NameTable, headers, node_header, target, name_count}
use Rattle.kfs_model.specs.Entry.{Link}
use Rattle.kfs_model.specs.Sight.{sight, is_directory, is_file, parent_in}
use Rattle.kfs_model.specs.Effect.{Filling, change_of, without_unnamed, with_names}
use Rattle.kfs_model.specs.Check.{EntryContext}
use Rattle.kfs_model.specs.Soundness.{IsSound}
use Rattle.kfs_model.specs.Spelling.{IsName}
use Rattle.kfs_model.specs.SeenAfter.{put_name, put_header, shifted, seen_after}
use Rattle.kfs_model.specs.CleanStep.{IsClean, StaysSound}
use Rattle.kfs_model.proofs.CleanFacts.{at_tree, clean_at, LinkFacts, link_facts}
use Rattle.kfs_model.proofs.NameTable.{target-insert, target_is_named}
use Rattle.kfs_model.proofs.NameAdded.{new_target, kept_target, new_or_old, others_count, own_count, count_shifted}
use Rattle.kfs_model.proofs.Heads.{stays, named_stays, get-headers, kept_head, directory_stays, directory_count, parent_kept, parent_of_none, climbs_with}
use Rattle.kfs_model.proofs.NodeStep.{put_header_kinds}
use Rattle.kfs_model.proofs.NameStep.{stays_named, left_head, left_head_is, NamesKept, names_kept_sound}
use Rattle.kfs_model.proofs.CellSteps.{node_there}

abbrev linked : Header → Header
linked h = record h { links = h.links + 1 }

module _ {B : Type 0} (t : Tree B) (sound : IsSound t) (n d : ℕ) (m : List ℕ) (facts : LinkFacts (sight t) n d m) where
  abbrev head : ℕ → Option Header
  head = get (headers t)

  abbrev after : NameTable
  after = insert t.names (d, m) n

  abbrev heads : ℕ → Option Header
  heads = put_header n linked head

  -- a file's header counts its names
  file_links : (node : Node B) → is_directory (Some (node_header t.names n node)) ≡ false → node_header after n node ≡ record (node_header t.names n node) { links = (node_header t.names n node).links + 1 }
  file_links node file = at node.body file
    where
      at : (body : Body B) → is_directory (Some (node_header t.names n (record node { body = body }))) ≡ false
          → node_header after n (record node { body = body }) ≡ record (node_header t.names n (record node { body = body })) { links = (node_header t.names n (record node { body = body })).links + 1 }
      at (FileBody cells) file = λ i. record { kind = File; mode = node.mode; uid = node.uid; gid = node.gid; links = own_count t.names d m n facts.free i; size = length cells }
      at DirectoryBody file = cc

  few_links : (node : Node B) → get t.nodes n ≡ Some node → is_directory (Some (node_header t.names n node)) ≡ false → name_count t.names n < 1024
  few_links node there file = at node.body file (facts.room (node_header t.names n node) (get-headers t n ∙ ap (option_map (node_header t.names n)) there))
    where
      at : (body : Body B) → is_directory (Some (node_header t.names n (record node { body = body }))) ≡ false → (node_header t.names n (record node { body = body })).links < 1024 → name_count t.names n < 1024
      at (FileBody cells) file few = few
      at DirectoryBody file few = cc

  node : Node B
  node = (node_there t n facts.there).0

  node_is : get t.nodes n ≡ Some node
  unfolding node
  node_is = (node_there t n facts.there).1

  head_is : head n ≡ Some (node_header t.names n node)
  head_is = get-headers t n ∙ ap (option_map (node_header t.names n)) node_is

  is_a_file : is_directory (Some (node_header t.names n node)) ≡ false
  is_a_file = sym (ap is_directory head_is) ∙ facts.file

  shown_at : (k : ℕ) (b : Bool) → (k == n) ≡ b → option_map (node_header after k) (cond (stays after k) (get t.nodes k) None) ≡ cond b (option_map linked (head n)) (head k)
  shown_at k true same =
      subst (λ k. option_map (node_header after k) (cond (stays after k) (get t.nodes k) None) ≡ option_map linked (head n)) (sym (eqb-true k n same))
      (ap (λ b. option_map (node_header after n) (cond b (get t.nodes n) None)) (named_stays after n (target_is_named after d m n (new_target t.names d m n facts.free)))
      ∙ ap (option_map (node_header after n)) node_is
      ∙ ap Some (file_links node is_a_file)
      ∙ sym (ap (option_map linked) head_is))
  shown_at k false other = kept_head t sound after k (others_count t.names d m n facts.free k other)

  head_after : (k : ℕ) → left_head t after k ≡ heads k
  head_after k = left_head_is t after k ∙ shown_at k (k == n) refl

  same_kinds : (k : ℕ) → is_directory (heads k) ≡ is_directory (head k)
  same_kinds = (put_header_kinds head n linked (λ h. refl)).directory

  parent_after : (k : ℕ) → parent_in heads after k ≡ parent_in head t.names k
  parent_after k = at (k == n) refl
    where
      at : (b : Bool) → (k == n) ≡ b → parent_in heads after k ≡ parent_in head t.names k
      at true same =
          let none : is_directory (head k) ≡ false = ap (λ k. is_directory (head k)) (eqb-true k n same) ∙ facts.file in
          parent_of_none heads after k (same_kinds k ∙ none) ∙ sym (parent_of_none head t.names k none)
      at false other =
          parent_kept head t.names sound heads after k (ap (λ b. cond b (option_map linked (head n)) (head k)) other) (others_count t.names d m n facts.free k other)
          (λ e k' there. kept_target t.names d m n facts.free e k' k there)

  parent_left : (k : ℕ) → parent_in (left_head t after) after k ≡ parent_in head t.names k
  parent_left k = ap (λ heads. parent_in heads after k) (λ i k. head_after k i) ∙ parent_after k

  pub link_seen : sight (without_unnamed (with_names after t)) ≡ record (sight t) { head = heads; name = put_name d m (Some n) (target t.names); count = shifted d (pos 1) (sight t).count }
  unfolding without_unnamed
  link_seen = λ i. record {
    head = λ k. head_after k i;
    name = λ e k. target-insert t.names d m n e k i;
    count = λ e. count_shifted t.names d m n facts.free e i;
    parent = λ k. parent_left k i;
  }

  -- ---- the tree after it is sound

  more : (k : ℕ) → name_count t.names k ≤ name_count after k
  more k = at (k == n) refl
    where
      at : (b : Bool) → (k == n) ≡ b → name_count t.names k ≤ name_count after k
      at true same = subst (λ k. name_count t.names k ≤ name_count after k) (sym (eqb-true k n same)) (omega (arith, own_count t.names d m n facts.free))
      at false other = omega (arith, others_count t.names d m n facts.free k other)

  stays_on : (k : ℕ) → stays t.names k ≡ true → stays after k ≡ true
  stays_on k stay = at (k == 1) refl
    where
      at : (b : Bool) → (k == 1) ≡ b → stays after k ≡ true
      at true root = or_left (k == 1) _ root
      at false other = named_stays after k (let some = stays_named t.names k stay (eqb-false k 1 other) in omega (arith, more k))

  no_directory : (k : ℕ) → IsTrue (is_directory (head k)) → (k == n) ≡ false
  no_directory k directory = ne_eqb k n (λ same. false≢true (sym (ap (λ k. is_directory (head k)) same ∙ facts.file) ∙ directory))

  names_kept : IsName m → NamesKept t after
  names_kept spelled = record {
    spelled = λ e k x there. new_or_old t.names d m n facts.free e k x there (λ d_is m_is n_is. subst IsName m_is spelled) (λ old. (sound.names_sound e k x old).spelled);
    holder = λ e k x there.
        let holder = new_or_old t.names d m n facts.free {P = IsTrue (is_directory (head e))} e k x there (λ d_is m_is n_is. subst (λ e. IsTrue (is_directory (head e))) d_is facts.directory) (λ old. (sound.names_sound e k x old).holder) in
        (holder, stays_on e (directory_stays t sound e holder));
    node = λ e k x there.
        let named = target_is_named after e k x there in
        new_or_old t.names d m n facts.free e k x there
        (λ d_is m_is n_is. (node_header t.names n node, ap head (sym n_is) ∙ head_is, (λ root. false≢true (sym (sym (ap (λ k. is_directory (head k)) (n_is ∙ root)) ∙ facts.file) ∙ sound.root)), named))
        (λ old. let was = sound.names_sound e k x old in (was.node.0, was.node.1, was.not_root, named));
    directories = λ k directory. let most = directory_count head t.names sound k directory in let same = others_count t.names d m n facts.free k (no_directory k directory) in omega arith;
    files = λ k file. files_at k file (k == n) refl;
    reaches = λ k directory stay.
        let (steps, climb) = sound.reaches k directory in
        (steps, climbs_with (parent_in head t.names) (parent_in (left_head t after) after) (λ k up is. parent_left k ∙ is) steps k 1 climb);
  }
    where
      files_at : (k : ℕ) → IsTrue (is_file (head k)) → (b : Bool) → (k == n) ≡ b → name_count after k ≤ 1024
      files_at k file true same =
          let few = few_links node node_is is_a_file in
          let own = own_count t.names d m n facts.free in
          subst (λ k. name_count after k ≤ 1024) (sym (eqb-true k n same)) (omega arith)
      files_at k file false other = let most = (sound.files k file).1 in let same = others_count t.names d m n facts.free k other in omega arith

  pub link_sound : IsName m → IsSound (without_unnamed (with_names after t))
  link_sound spelled = names_kept_sound t after sound (names_kept spelled)

module _ {B : Type 0} (filling : Filling B) (context : EntryContext) (index : ℕ) (t : Tree B) where
  pub link_kept : (n d : ℕ) (m : List ℕ) → IsClean context t (Link n d m) → StaysSound filling context.client index t (Link n d m)
  unfolding change_of seen_after
  link_kept n d m h =
      let facts = link_facts (at_tree context t) n d m (clean_at context t h) in
      record { sound = link_sound t h.sound n d m facts h.entry_fits.2; seen = link_seen t h.sound n d m facts }
