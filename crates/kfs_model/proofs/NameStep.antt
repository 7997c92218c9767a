-- A change of names alone, after which the nodes without a name go: what nodes show then, and when the tree is sound.
use Rattle.std.proofs.Common.{◌≡◌, ◌≢◌, ℕ, ◌≤◌, Bool, true, false, cond, ◌==◌, List, Option, Some, None, option_map, IsTrue, refl, sym, ap, subst, ◌∙◌, ⊎_elim, arith, eqb-true, ltb-true}
use Rattle.std.proofs.lemmas.Bool.{or_cases, false≢true}
use Rattle.kfs_model.specs.Header.{Kind, File, Directory, Header}
use Rattle.kfs_model.specs.Table.{get}
use Rattle.kfs_model.specs.Tree.{Tree, Node, NameTable, headers, node_header, target, name_count}
use Rattle.kfs_model.specs.Sight.{is_directory, is_file, parent_in}
use Rattle.kfs_model.specs.Effect.{without_unnamed, with_names}
use Rattle.kfs_model.specs.Soundness.{Climbs, InRange, IsSound}
use Rattle.kfs_model.specs.Spelling.{IsName}
use Rattle.kfs_model.proofs.NameTable.{is_named_counts}
use Rattle.kfs_model.proofs.Heads.{stays, named_stays, get-headers, get-swept_headers}

-- what stays but the root is named
pub stays_named : (names : NameTable) (k : ℕ) → stays names k ≡ true → k ≢ 1 → 1 ≤ name_count names k
stays_named names k stay other =
    ⊎_elim (λ root. absurd (other (eqb-true k 1 root))) (λ named. ltb-true 0 _ (sym (is_named_counts names k) ∙ named)) (or_cases (k == 1) _ stay)

module _ {B : Type 0} (t : Tree B) (after : NameTable) where
  abbrev pub head : ℕ → Option Header
  head = get (headers t)

  -- what a node shows after the change
  abbrev pub left_head : ℕ → Option Header
  left_head = get (headers (without_unnamed (with_names after t)))

  pub left_head_is : (k : ℕ) → left_head k ≡ option_map (node_header after k) (cond (stays after k) (get t.nodes k) None)
  left_head_is k = get-swept_headers (with_names after t) k

  -- a node of the tree before, of the same kind and in the same ranges
  pub record WasThere (k : ℕ) (h : Header) : Type 0 where
    pub stay : stays after k ≡ true
    pub old : Header
    pub was : head k ≡ Some old
    pub directory : is_directory (Some h) ≡ is_directory (Some old)
    pub file : is_file (Some h) ≡ is_file (Some old)
    pub ranges : InRange k old → InRange k h

  pub was_there : (k : ℕ) (h : Header) → left_head k ≡ Some h → WasThere k h
  was_there k h there = at (stays after k) (get t.nodes k) refl refl (sym (left_head_is k) ∙ there)
    where
      at : (b : Bool) (o : Option (Node B)) → stays after k ≡ b → get t.nodes k ≡ o → option_map (node_header after k) (cond b o None) ≡ Some h → WasThere k h
      at false o stay is there = cc
      at true None stay is there = cc
      at true (Some node) stay is there =
          let same : node_header after k node ≡ h = cc in
          subst (WasThere k) same (record {
            stay = stay;
            old = node_header t.names k node;
            was = get-headers t k ∙ ap (option_map (node_header t.names k)) is;
            directory = refl;
            file = refl;
            ranges = λ r. record { least = r.least; greatest = r.greatest; mode = r.mode; uid = r.uid; gid = r.gid; size = r.size };
          })

  -- what stays shows a header of the same kind
  pub record StillThere (k : ℕ) (old : Header) : Type 0 where
    pub new : Header
    pub is : left_head k ≡ Some new
    pub directory : is_directory (Some new) ≡ is_directory (Some old)

  pub still_there : (k : ℕ) (old : Header) → head k ≡ Some old → stays after k ≡ true → StillThere k old
  still_there k old was stay = at (get t.nodes k) refl (sym (get-headers t k) ∙ was)
    where
      at : (o : Option (Node B)) → get t.nodes k ≡ o → option_map (node_header t.names k) o ≡ Some old → StillThere k old
      at None is was = cc
      at (Some node) is was =
          let same : node_header t.names k node ≡ old = cc in
          subst (StillThere k) same (record {
            new = node_header after k node;
            is = left_head_is k ∙ ap (λ b. option_map (node_header after k) (cond b (get t.nodes k) None)) stay ∙ ap (option_map (node_header after k)) is;
            directory = refl;
          })

  some_header : (o : Option Header) (test : Option Header → Bool) → test None ≡ false → IsTrue (test o) → (h : Header) × (o ≡ Some h)
  some_header None test none holds = absurd (false≢true (sym none ∙ holds))
  some_header (Some h) test none holds = (h, refl)

  pub directory_was : (k : ℕ) → IsTrue (is_directory (left_head k)) → IsTrue (is_directory (head k)) × (stays after k ≡ true)
  directory_was k directory =
      let (h, there) = some_header (left_head k) is_directory refl directory in
      let was = was_there k h there in
      (ap is_directory was.was ∙ sym was.directory ∙ sym (ap is_directory there) ∙ directory, was.stay)

  pub file_was : (k : ℕ) → IsTrue (is_file (left_head k)) → IsTrue (is_file (head k)) × (stays after k ≡ true)
  file_was k file =
      let (h, there) = some_header (left_head k) is_file refl file in
      let was = was_there k h there in
      (ap is_file was.was ∙ sym was.file ∙ sym (ap is_file there) ∙ file, was.stay)

  pub directory_still : (k : ℕ) → IsTrue (is_directory (head k)) → stays after k ≡ true → IsTrue (is_directory (left_head k))
  directory_still k directory stay =
      let (h, there) = some_header (head k) is_directory refl directory in
      let still = still_there k h there stay in
      ap is_directory still.is ∙ still.directory ∙ sym (ap is_directory there) ∙ directory

  -- the names after the change are sound over the nodes before, apart from those that go
  pub record NamesKept : Type 0 where
    pub spelled : (d : ℕ) (m : List ℕ) (n : ℕ) → target after d m ≡ Some n → IsName m
    pub holder : (d : ℕ) (m : List ℕ) (n : ℕ) → target after d m ≡ Some n → IsTrue (is_directory (head d)) × (stays after d ≡ true)
    pub node : (d : ℕ) (m : List ℕ) (n : ℕ) → target after d m ≡ Some n → (h : Header) × (head n ≡ Some h) × (n ≢ 1) × (1 ≤ name_count after n)
    pub directories : (k : ℕ) → IsTrue (is_directory (head k)) → name_count after k ≤ 1
    pub files : (k : ℕ) → IsTrue (is_file (head k)) → name_count after k ≤ 1024
    pub reaches : (k : ℕ) → IsTrue (is_directory (head k)) → stays after k ≡ true → (steps : ℕ) × Climbs (parent_in left_head after) steps k 1

  no_file : (o : Option Header) → IsTrue (is_directory o) → IsTrue (is_file o) → ⊥
  no_file None directory file = cc
  no_file (Some h) directory file = by_kind h.kind directory file
    where
      by_kind : (kind : Kind) → IsTrue (is_directory (Some (record h { kind = kind }))) → IsTrue (is_file (Some (record h { kind = kind }))) → ⊥
      by_kind File directory file = cc
      by_kind Directory directory file = cc

  file_is_no_root : IsSound t → (k : ℕ) → IsTrue (is_file (head k)) → k ≢ 1
  file_is_no_root sound k file same = no_file (head 1) sound.root (ap is_file (ap head (sym same)) ∙ file)

  pub names_kept_sound : IsSound t → NamesKept → IsSound (without_unnamed (with_names after t))
  unfolding without_unnamed
  names_kept_sound sound kept = record {
    root = directory_still 1 sound.root refl;
    names_sound = λ d m n there.
        let (h, was, other, named) = kept.node d m n there in
        let still = still_there n h was (named_stays after n named) in
        let (directory, stay) = kept.holder d m n there in
        record { spelled = kept.spelled d m n there; holder = directory_still d directory stay; node = (still.new, still.is); not_root = other };
    directories = λ k directory other.
        let (was, stay) = directory_was k directory in
        let some = stays_named after k stay other in
        let most = kept.directories k was in
        omega arith;
    files = λ k file.
        let (was, stay) = file_was k file in
        (stays_named after k stay (file_is_no_root sound k was), kept.files k was);
    reaches = λ k directory. let (was, stay) = directory_was k directory in kept.reaches k was stay;
    ranges = λ k h there. let was = was_there k h there in was.ranges (sound.ranges k was.old was.was);
  }
