-- What nodes show in a sound tree, and what stays when names change.
use Rattle.std.proofs.Common.{◌≡◌, ◌≢◌, ℕ, zero, suc, ◌≤◌, Bool, true, false, cond, not, ◌&&◌, ◌||◌, ◌==◌, ltb, List, length, Option, Some, None, option_map, IsTrue, refl, sym, ap, subst, ◌∙◌, arith, lt-ltb, eqb-true, eq-eqb, ne_eqb}
use Rattle.std.proofs.lemmas.Bool.{or_left, or_right, eqb-false, false≢true}
use Rattle.kfs_model.specs.Header.{Kind, File, Directory, Header}
use Rattle.kfs_model.specs.LastCover.{file_size}
use Rattle.kfs_model.specs.Table.{get}
use Rattle.kfs_model.proofs.TableLaws.{same_table, get-mapped, get-retain}
use Rattle.kfs_model.specs.Tree.{Tree, Node, Body, FileBody, DirectoryBody, NameTable, headers, node_header, links_of, kind_of, size_of, content_of, target, name_count, is_named}
use Rattle.kfs_model.specs.Sight.{is_directory, is_file, holder, parent_in}
use Rattle.kfs_model.specs.Effect.{without_unnamed}
use Rattle.kfs_model.specs.SeenAfter.{put_parent}
use Rattle.kfs_model.specs.Soundness.{Climbs, AreSound, IsSound}
use Rattle.kfs_model.proofs.NameTable.{is_named_counts, named_has_target, holder_of_only}

-- ---- heads

-- whether a node stays when the nodes without a name go
abbrev pub stays : NameTable → ℕ → Bool
stays names k = (k == 1) || is_named names k

-- the size that a header says, 0 of none
abbrev pub size_said : Option Header → ℕ
size_said found = elim found [ None ↦ 0 | Some header ↦ header.size ]

module _ {B : Type 0} where
  pub get-headers : (t : Tree B) (k : ℕ) → get (headers t) k ≡ option_map (node_header t.names k) (get t.nodes k)
  get-headers t k = get-mapped (node_header t.names) t.nodes k

  size_of_node : (names : NameTable) (n : ℕ) (found : Option (Node B)) → size_said (option_map (node_header names n) found) ≡ length (content_of found)
  size_of_node names n None = refl
  size_of_node names n (Some node) = by node.body
    where
      by : (body : Body B) → size_of body ≡ length (content_of (Some (record node { body = body })))
      by (FileBody cells) = refl
      by DirectoryBody = refl

  -- the size in a header is the length of the file's cells, 0 of a directory
  pub size_is_extent : (t : Tree B) (n : ℕ) → size_said (get (headers t) n) ≡ file_size t n
  size_is_extent t n = ap size_said (get-headers t n) ∙ size_of_node t.names n (get t.nodes n)

  pub get-swept_headers : (t : Tree B) (k : ℕ) → get (headers (without_unnamed t)) k ≡ option_map (node_header t.names k) (cond (stays t.names k) (get t.nodes k) None)
  unfolding without_unnamed
  get-swept_headers t k = get-headers (without_unnamed t) k ∙ ap (option_map (node_header t.names k)) (get-retain (λ n. (n == 1) || is_named t.names n) t.nodes k)

  -- a header counts the names of a file alone
  pub same_count_header : (names others : NameTable) (k : ℕ) (node : Node B) → name_count others k ≡ name_count names k → node_header others k node ≡ node_header names k node
  same_count_header names others k node same = λ i. record {
    kind = kind_of node.body;
    mode = node.mode;
    uid = node.uid;
    gid = node.gid;
    links = same_links node.body i;
    size = size_of node.body;
  }
    where
      same_links : (body : Body B) → links_of others k body ≡ links_of names k body
      same_links (FileBody cells) = same
      same_links DirectoryBody = refl

-- ---- what is named stays

pub named_stays : (names : NameTable) (k : ℕ) → 1 ≤ name_count names k → stays names k ≡ true
named_stays names k some = or_right (k == 1) _ (is_named_counts names k ∙ lt-ltb 0 _ some)

root_stays : (names : NameTable) → stays names 1 ≡ true
root_stays names = refl

module _ {B : Type 0} (t : Tree B) (sound : IsSound t) where
  pub directory_stays : (k : ℕ) → IsTrue (is_directory (get (headers t) k)) → stays t.names k ≡ true
  directory_stays k directory = at (k == 1) refl
    where
      at : (b : Bool) → (k == 1) ≡ b → stays t.names k ≡ true
      at true e = or_left (k == 1) _ e
      at false e = let one = sound.directories k directory (eqb-false k 1 e) in named_stays t.names k (omega arith)

  -- each node of a sound tree stays
  pub node_stays : (k : ℕ) (node : Node B) → get t.nodes k ≡ Some node → stays t.names k ≡ true
  node_stays k node there = at node.body refl
    where
      shown : get (headers t) k ≡ Some (node_header t.names k node)
      shown = get-headers t k ∙ ap (option_map (node_header t.names k)) there

      at : (body : Body B) → node.body ≡ body → stays t.names k ≡ true
      at (FileBody cells) e = named_stays t.names k (sound.files k (ap is_file shown ∙ ap (λ b. is_file (Some (node_header t.names k (record node { body = b })))) e)).0
      at DirectoryBody e = directory_stays k (ap is_directory shown ∙ ap (λ b. is_directory (Some (node_header t.names k (record node { body = b })))) e)

  -- a sound tree is its own sweep
  pub own_sweep : without_unnamed t ≡ t
  unfolding without_unnamed
  own_sweep = λ i. record { nodes = same_table _ t.nodes (λ k. get-retain (λ n. (n == 1) || is_named t.names n) t.nodes k ∙ at k (get t.nodes k) refl) i; names = t.names }
    where
      at : (k : ℕ) (o : Option (Node B)) → get t.nodes k ≡ o → cond (stays t.names k) (get t.nodes k) None ≡ get t.nodes k
      at k None is = ap (λ o. cond (stays t.names k) o None) is ∙ nothing (stays t.names k) ∙ sym is
        where
          nothing : (b : Bool) → ◌≡◌ {A = Option (Node B)} (cond b None None) None
          nothing true = refl
          nothing false = refl
      at k (Some node) is = ap (λ b. cond b (get t.nodes k) None) (node_stays k node is)

  -- what a node shows stays where as many names lead to it as before
  pub kept_head : (others : NameTable) (k : ℕ) → name_count others k ≡ name_count t.names k → option_map (node_header others k) (cond (stays others k) (get t.nodes k) None) ≡ get (headers t) k
  kept_head others k same = at (get t.nodes k) refl ∙ sym (get-headers t k)
    where
      as_before : stays others k ≡ stays t.names k
      as_before = ap (λ b. (k == 1) || b) (is_named_counts others k ∙ ap (ltb 0) same ∙ sym (is_named_counts t.names k))

      nothing : (b : Bool) → option_map (node_header {B = B} others k) (cond b None None) ≡ None
      nothing true = refl
      nothing false = refl

      at : (o : Option (Node B)) → get t.nodes k ≡ o → option_map (node_header others k) (cond (stays others k) o None) ≡ option_map (node_header t.names k) o
      at None is = nothing (stays others k)
      at (Some node) is = ap (λ b. option_map (node_header others k) (cond b (Some node) None)) (as_before ∙ node_stays k node is) ∙ ap Some (same_count_header t.names others k node same)

-- ---- parents

module _ (head : ℕ → Option Header) (names : NameTable) where
  pub parent_is : (k d : ℕ) (m : List ℕ) → IsTrue (is_directory (head k)) → k ≢ 1 → name_count names k ≡ 1 → target names d m ≡ Some k → parent_in head names k ≡ Some d
  parent_is k d m directory other one there =
      ap (λ b. cond (b && not (k == 1)) (holder names k) None) directory ∙ ap (λ b. cond (not b) (holder names k) None) (ne_eqb k 1 other) ∙ holder_of_only names k d m one there

  pub parent_of_none : (k : ℕ) → is_directory (head k) ≡ false → parent_in head names k ≡ None
  parent_of_none k none = ap (λ b. cond (b && not (k == 1)) (holder names k) None) none

  pub root_has_none : parent_in head names 1 ≡ None
  root_has_none = at (is_directory (head 1))
    where
      at : (b : Bool) → cond (b && false) (holder names 1) None ≡ None
      at true = refl
      at false = refl

  -- what has a parent is a directory other than the root
  pub has_parent : (k up : ℕ) → parent_in head names k ≡ Some up → IsTrue (is_directory (head k)) × (k ≢ 1) × (holder names k ≡ Some up)
  has_parent k up is = at (is_directory (head k)) (k == 1) refl refl is
    where
      at : (directory root : Bool) → is_directory (head k) ≡ directory → (k == 1) ≡ root → cond (directory && not root) (holder names k) None ≡ Some up → IsTrue (is_directory (head k)) × (k ≢ 1) × (holder names k ≡ Some up)
      at true true e f is = cc
      at true false e f is = (e, (eqb-false k 1 f), is)
      at false root e f is = cc

module _ (head : ℕ → Option Header) (names : NameTable) (sound : AreSound head names) where
  -- no name leads to what is no node
  pub unnamed : (k : ℕ) → head k ≡ None → name_count names k ≡ 0
  unnamed k none = at (name_count names k) refl
    where
      at : (count : ℕ) → name_count names k ≡ count → count ≡ 0
      at zero e = refl
      at (suc count) e =
          let some : 1 ≤ name_count names k = omega arith in
          let (d, m, there) = named_has_target names k some in
          let node = (sound.names_sound d m k there).node in
          cc (node.1, none)

  -- no name leads to the root, and one at the most to any directory
  pub root_unnamed : name_count names 1 ≡ 0
  root_unnamed = at (name_count names 1) refl
    where
      at : (count : ℕ) → name_count names 1 ≡ count → count ≡ 0
      at zero e = refl
      at (suc count) e =
          let some : 1 ≤ name_count names 1 = omega arith in
          let (d, m, there) = named_has_target names 1 some in
          absurd ((sound.names_sound d m 1 there).not_root refl)

  pub directory_count : (k : ℕ) → IsTrue (is_directory (head k)) → name_count names k ≤ 1
  directory_count k directory = at (k == 1) refl
    where
      at : (b : Bool) → (k == 1) ≡ b → name_count names k ≤ 1
      at true same = let none = ap (name_count names) (eqb-true k 1 same) ∙ root_unnamed in omega arith
      at false other = let one = sound.directories k directory (eqb-false k 1 other) in omega arith

  pub root_is_node : (k : ℕ) → head k ≡ None → k ≢ 1
  root_is_node k none e = false≢true (sym (ap is_directory (ap head (sym e) ∙ none)) ∙ sound.root)

  -- a directory's one name
  pub one_name : (k : ℕ) → IsTrue (is_directory (head k)) → k ≢ 1 → (d : ℕ) × (m : List ℕ) × (target names d m ≡ Some k)
  one_name k directory other = let one = sound.directories k directory other in named_has_target names k (omega arith)

  -- the parent of a directory holds its name
  pub parent_named : (k up : ℕ) → parent_in head names k ≡ Some up → (m : List ℕ) × (target names up m ≡ Some k)
  parent_named k up is =
      let (directory, other, held) = has_parent head names k up is in
      let (d, m, there) = one_name k directory other in
      let same : d ≡ up = cc (parent_is head names k d m directory other (sound.directories k directory other) there, is) in
      (m, subst (λ d. target names d m ≡ Some k) same there)

  -- a parent stays where the node shows what it showed and its names are as many and are still there
  pub parent_kept : (heads_after : ℕ → Option Header) (after : NameTable) (k : ℕ) → heads_after k ≡ head k → name_count after k ≡ name_count names k
      → ((d : ℕ) (m : List ℕ) → target names d m ≡ Some k → target after d m ≡ Some k) → parent_in heads_after after k ≡ parent_in head names k
  parent_kept heads_after after k same_head same_count there = at (is_directory (head k)) (k == 1) refl refl
    where
      directory_after : (b : Bool) → is_directory (head k) ≡ b → is_directory (heads_after k) ≡ b
      directory_after b e = ap is_directory same_head ∙ e

      at : (directory root : Bool) → is_directory (head k) ≡ directory → (k == 1) ≡ root → parent_in heads_after after k ≡ parent_in head names k
      at false root e f = parent_of_none heads_after after k (directory_after false e) ∙ sym (parent_of_none head names k e)
      at true true e f = subst (λ k. parent_in heads_after after k ≡ parent_in head names k) (sym (eqb-true k 1 f)) (root_has_none heads_after after ∙ sym (root_has_none head names))
      at true false e f =
          let other = eqb-false k 1 f in
          let (d, m, is) = one_name k e other in
          parent_is heads_after after k d m (directory_after true e) other (same_count ∙ sound.directories k e other) (there d m is)
          ∙ sym (parent_is head names k d m e other (sound.directories k e other) is)

pub climbs_with : (parent after : ℕ → Option ℕ) → ((k up : ℕ) → parent k ≡ Some up → after k ≡ Some up) → (steps from to : ℕ) → Climbs parent steps from to → Climbs after steps from to
climbs_with parent after each zero from to climb = climb
climbs_with parent after each (suc steps) from to climb = (climb.0, each from climb.0 climb.1, climbs_with parent after each steps climb.0 to climb.2)

-- ---- the parent of one node put

pub put_parent_elsewhere : (kind : Kind) (n d : ℕ) (parent : ℕ → Option ℕ) (k : ℕ) → (k == n) ≡ false → put_parent kind n d parent k ≡ parent k
put_parent_elsewhere File n d parent k other = refl
put_parent_elsewhere Directory n d parent k other = ap (λ b. cond b (Some d) (parent k)) other

pub put_parent_here : (n d : ℕ) (parent : ℕ → Option ℕ) → put_parent Directory n d parent n ≡ Some d
put_parent_here n d parent = ap (λ b. cond b (Some d) (parent n)) (eq-eqb n n refl)
