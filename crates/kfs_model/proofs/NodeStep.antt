-- A change of one node that leaves its kind and all names keeps a sound tree sound, and shows at that node alone.
use Rattle.std.proofs.Common.{◌≡◌, ℕ, Bool, true, false, cond, not, ◌&&◌, ◌==◌, Option, Some, None, option_map, refl, sym, ap, subst, ◌∙◌, eqb-true}
use Rattle.kfs_model.specs.Header.{Header}
use Rattle.kfs_model.specs.Table.{get, insert}
use Rattle.kfs_model.specs.Tree.{Tree, Node, NameTable, headers, node_header, target}
use Rattle.kfs_model.specs.Sight.{sight, is_directory, is_file, holder, parent_in}
use Rattle.kfs_model.specs.Effect.{without_unnamed, changed_node}
use Rattle.kfs_model.specs.Soundness.{InRange, AreSound, IsSound}
use Rattle.kfs_model.specs.SeenAfter.{put_header}
use Rattle.kfs_model.proofs.NameTable.{at_number-insert}
use Rattle.kfs_model.proofs.Heads.{stays, get-headers, get-swept_headers, node_stays, kept_head, climbs_with}

-- ---- nodes that show the same kinds

pub record SameKinds (head heads : ℕ → Option Header) : Type 0 where
  pub directory : (k : ℕ) → is_directory (heads k) ≡ is_directory (head k)
  pub file : (k : ℕ) → is_file (heads k) ≡ is_file (head k)
  pub some : (k : ℕ) (h : Header) → head k ≡ Some h → (g : Header) × (heads k ≡ Some g)

module _ (head heads : ℕ → Option Header) (names : NameTable) (same : SameKinds head heads) where
  pub same_parent : (k : ℕ) → parent_in heads names k ≡ parent_in head names k
  same_parent k = ap (λ b. cond (b && not (k == 1)) (holder names k) None) (same.directory k)

  pub same_kinds_sound : AreSound head names → ((k : ℕ) (h : Header) → heads k ≡ Some h → InRange k h) → AreSound heads names
  same_kinds_sound sound ranges = record {
    root = same.directory 1 ∙ sound.root;
    names_sound = λ d m n there.
        let old = sound.names_sound d m n there in
        record { spelled = old.spelled; holder = same.directory d ∙ old.holder; node = same.some n old.node.0 old.node.1; not_root = old.not_root };
    directories = λ k directory other. sound.directories k (sym (same.directory k) ∙ directory) other;
    files = λ k file. sound.files k (sym (same.file k) ∙ file);
    reaches = λ k directory.
        let (steps, climb) = sound.reaches k (sym (same.directory k) ∙ directory) in
        (steps, climbs_with (parent_in head names) (parent_in heads names) (λ k up is. same_parent k ∙ is) steps k 1 climb);
    ranges = ranges;
  }

-- ---- a header that changes and keeps its kind

directory_by_kind : (g h : Header) → g.kind ≡ h.kind → is_directory (Some g) ≡ is_directory (Some h)
directory_by_kind g h same = ap (λ kind. is_directory (Some (record g { kind = kind }))) same

file_by_kind : (g h : Header) → g.kind ≡ h.kind → is_file (Some g) ≡ is_file (Some h)
file_by_kind g h same = ap (λ kind. is_file (Some (record g { kind = kind }))) same

module _ (head : ℕ → Option Header) (n : ℕ) (change : Header → Header) (kinds : (h : Header) → (change h).kind ≡ h.kind) where
  same_test : (test : Option Header → Bool) → ((g h : Header) → g.kind ≡ h.kind → test (Some g) ≡ test (Some h)) → (k : ℕ) → test (put_header n change head k) ≡ test (head k)
  same_test test by_kind k = at (k == n) refl
    where
      changed : (o : Option Header) → test (option_map change o) ≡ test o
      changed None = refl
      changed (Some h) = by_kind (change h) h (kinds h)

      at : (b : Bool) → (k == n) ≡ b → test (cond b (option_map change (head n)) (head k)) ≡ test (head k)
      at true same = changed (head n) ∙ ap (λ k. test (head k)) (sym (eqb-true k n same))
      at false other = refl

  still_some : (k : ℕ) (h : Header) → head k ≡ Some h → (g : Header) × (put_header n change head k ≡ Some g)
  still_some k h there = at (k == n) refl
    where
      at : (b : Bool) → (k == n) ≡ b → (g : Header) × (cond b (option_map change (head n)) (head k) ≡ Some g)
      at true same = (change h, ap (option_map change) (ap head (sym (eqb-true k n same)) ∙ there))
      at false other = (h, there)

  pub put_header_kinds : SameKinds head (put_header n change head)
  put_header_kinds = record { directory = same_test is_directory directory_by_kind; file = same_test is_file file_by_kind; some = still_some }

  pub put_header_ranges : ((k : ℕ) (h : Header) → head k ≡ Some h → InRange k h) → ((h : Header) → head n ≡ Some h → InRange n (change h)) → (k : ℕ) (h : Header) → put_header n change head k ≡ Some h → InRange k h
  put_header_ranges ranges new k h shown = at (k == n) refl shown
    where
      changed : (o : Option Header) → head n ≡ o → option_map change o ≡ Some h → InRange n h
      changed None is shown = cc
      changed (Some g) is shown = let same : change g ≡ h = cc in subst (InRange n) same (new g is)

      at : (b : Bool) → (k == n) ≡ b → cond b (option_map change (head n)) (head k) ≡ Some h → InRange k h
      at true same shown = subst (λ k. InRange k h) (sym (eqb-true k n same)) (changed (head n) refl shown)
      at false other shown = ranges k h shown

-- ---- one node changed in a sound tree

module _ {B : Type 0} (t : Tree B) (sound : IsSound t) (n : ℕ) (node : Node B) (there : get t.nodes n ≡ Some node) (change : Node B → Node B) (header_change : Header → Header)
    (kinds : (h : Header) → (header_change h).kind ≡ h.kind) (shown : node_header t.names n (change node) ≡ header_change (node_header t.names n node)) where
  abbrev changed : Tree B
  changed = record { nodes = insert t.nodes n (change node); names = t.names }

  changed_is : changed_node change n t ≡ changed
  changed_is = ap (λ o. elim o [ None ↦ t | Some node ↦ record { nodes = insert t.nodes n (change node); names = t.names } ]) there

  abbrev heads : ℕ → Option Header
  heads = put_header n header_change (get (headers t))

  head_is : get (headers t) n ≡ Some (node_header t.names n node)
  head_is = get-headers t n ∙ ap (option_map (node_header t.names n)) there

  shown_at : (k : ℕ) (b : Bool) → (k == n) ≡ b → option_map (node_header t.names k) (cond (stays t.names k) (cond b (Some (change node)) (get t.nodes k)) None) ≡ cond b (option_map header_change (get (headers t) n)) (get (headers t) k)
  shown_at k true same =
      subst (λ k. option_map (node_header t.names k) (cond (stays t.names k) (Some (change node)) None) ≡ option_map header_change (get (headers t) n)) (sym (eqb-true k n same))
      (ap (λ b. option_map (node_header t.names n) (cond b (Some (change node)) None)) (node_stays t sound n node there) ∙ ap Some shown ∙ sym (ap (option_map header_change) head_is))
  shown_at k false other = kept_head t sound t.names k refl

  head_after : (k : ℕ) → get (headers (without_unnamed changed)) k ≡ heads k
  head_after k =
      get-swept_headers changed k ∙ ap (λ o. option_map (node_header t.names k) (cond (stays t.names k) o None)) (at_number-insert t.nodes n (change node) k) ∙ shown_at k (k == n) refl

  changed_seen : sight (without_unnamed changed) ≡ record (sight t) { head = heads }
  unfolding without_unnamed
  changed_seen = λ i. record {
    head = λ k. head_after k i;
    name = target t.names;
    count = (sight t).count;
    parent = λ k. (ap (λ heads. parent_in heads t.names k) (λ i k. head_after k i) ∙ same_parent (get (headers t)) heads t.names (put_header_kinds (get (headers t)) n header_change kinds) k) i;
  }

  changed_sound : ((h : Header) → get (headers t) n ≡ Some h → InRange n (header_change h)) → IsSound (without_unnamed changed)
  unfolding without_unnamed
  changed_sound range =
      subst (λ heads. AreSound heads t.names) (λ i k. sym (head_after k) i)
      (same_kinds_sound (get (headers t)) heads t.names (put_header_kinds (get (headers t)) n header_change kinds) sound (put_header_ranges (get (headers t)) n header_change kinds sound.ranges range))

  pub node_seen : sight (without_unnamed (changed_node change n t)) ≡ record (sight t) { head = heads }
  node_seen = ap (λ u. sight (without_unnamed u)) changed_is ∙ changed_seen

  pub node_sound : ((h : Header) → get (headers t) n ≡ Some h → InRange n (header_change h)) → IsSound (without_unnamed (changed_node change n t))
  node_sound range = subst (λ u. IsSound (without_unnamed u)) (sym changed_is) (changed_sound range)
