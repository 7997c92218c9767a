-- A well formed image shows a sound tree, and its rows are that tree's headers and names.
use Rattle.std.proofs.Common.{◌≡◌, ◌≢◌, ℕ, zero, suc, ◌<◌, ◌≤◌, ◌^◌, ◌==◌, ◌||◌, not, Bool, true, false, List, length, map, Option, Some, None, is_some, IsTrue, refl, sym, ap, subst, ◌∙◌, ⊎_elim, eqb-true, eq-eqb, leb-true}
use Rattle.std.specs.List.{AllByRecursion}
use Rattle.std.proofs.lemmas.Bool.{or_cases, not-true}
use Rattle.kfs_model.specs.Header.{Kind, File, Directory, Header}
use Rattle.kfs_model.specs.Table.{Table, numbers, get}
use Rattle.kfs_model.specs.Tree.{NameTable, headers, name_order, target, name_count}
use Rattle.kfs_model.specs.Sight.{sight, sight_over, is_directory, is_file, parent_in, climb_meets}
use Rattle.kfs_model.specs.Spelling.{IsName}
use Rattle.kfs_model.specs.Soundness.{Climbs, InRange, NameIsSound, AreSound, IsSound}
use Rattle.kfs_model.proofs.CleanIsAllowed.{left, right}
use Rattle.kfs_model.specs.Device.ShownTree.{shown_tree}
use Rattle.kfs_model.specs.Plan.{keyed_name}
use Rattle.kfs_model.specs.Device.RawImage.{RawImage, IsSpelled, node_entry, heads_of, names_of, image_of}
use Rattle.kfs_model.specs.Device.Rules.{kind_fits, names_fit}
use Rattle.kfs_model.specs.Device.Finding.{IsWellFormed}
use Rattle.kfs_model.proofs.DeviceLemmas.Among.{among_all, from_map}
use Rattle.kfs_model.proofs.DeviceLemmas.RowTables.{get_among, sorted_entries, sorted_rows}
use Rattle.kfs_model.proofs.DeviceLemmas.RulesHold.{nodes_ascend, numbers_in_range, root_there, headers_fit, named_rightly, climbing, names_ascend, in_directories, lead_to_nodes}
use Rattle.kfs_model.proofs.DeviceLemmas.ShownHeads.{HeaderFits, heads_shown}

-- a climb that meets a node leads there
pub climb_from_test : (parent : ℕ → Option ℕ) (fuel to from : ℕ) → climb_meets parent fuel to from ≡ true → (steps : ℕ) × Climbs parent steps from to
unfolding climb_meets
climb_from_test parent zero to from meets = (0, eqb-true from to meets)
climb_from_test parent (suc fuel) to from meets = at (from == to) (parent from) refl refl (λ up rest. climb_from_test parent fuel to up rest) meets
  where
    at : (here : Bool) (next : Option ℕ) → (from == to) ≡ here → parent from ≡ next → ((up : ℕ) → climb_meets parent fuel to up ≡ true → (steps : ℕ) × Climbs parent steps up to)
        → ◌≡◌ {A = Bool} (elim here [ true ↦ true | false ↦ elim next [ None ↦ false | Some up ↦ climb_meets parent fuel to up ] ]) true → (steps : ℕ) × Climbs parent steps from to
    at true next here is rest meets = (0, eqb-true from to here)
    at false None here is rest meets = cc
    at false (Some up) here is rest meets = let (steps, climb) = rest up meets in (suc steps, (up, is, climb))

-- a node that shows a kind is there
pub some_directory : (o : Option Header) → IsTrue (is_directory o) → (h : Header) × (o ≡ Some h) × (h.kind ≡ Directory)
some_directory None directory = cc
some_directory (Some h) directory = (h, refl, at h.kind directory)
  where
    at : (kind : Kind) → IsTrue (is_directory (Some (record h { kind = kind }))) → kind ≡ Directory
    at File directory = cc
    at Directory directory = refl

some_file : (o : Option Header) → IsTrue (is_file o) → (h : Header) × (o ≡ Some h) × (h.kind ≡ File)
some_file None file = cc
some_file (Some h) file = (h, refl, at h.kind file)
  where
    at : (kind : Kind) → IsTrue (is_file (Some (record h { kind = kind }))) → kind ≡ File
    at File file = refl
    at Directory file = cc

some_node : (o : Option Header) → is_some o ≡ true → (h : Header) × (o ≡ Some h)
some_node None some = cc
some_node (Some h) some = (h, refl)

module _ (raw : RawImage) where
  -- what holds of all node rows holds of each header, and of all name rows of each name
  pub each_head : (P : ℕ → Header → Type 0) → AllByRecursion (λ row. P row.number row.header) raw.nodes → (number : ℕ) (h : Header) → get (heads_of raw) number ≡ Some h → P number h
  each_head P all number h is =
      let (row, among, same) = from_map node_entry raw.nodes (number, h) (get_among numbers (map node_entry raw.nodes) number h is) in
      subst (λ (e : ℕ × Header). P e.0 e.1) (sym same) (among_all (λ row. P row.number row.header) raw.nodes row all among)

  pub each_name : (P : ℕ → List ℕ → ℕ → Type 0) → AllByRecursion (λ row. P row.directory row.name row.number) raw.names
      → (directory : ℕ) (name : List ℕ) (number : ℕ) → target (names_of raw) directory name ≡ Some number → P directory name number
  each_name P all directory name number is =
      let (row, among, same) = from_map keyed_name raw.names ((directory, name), number) (get_among name_order (map keyed_name raw.names) (directory, name) number is) in
      subst (λ (e : (ℕ × List ℕ) × ℕ). P e.0.0 e.0.1 e.1) (sym same) (among_all (λ row. P row.directory row.name row.number) raw.names row all among)

  module _ (well_formed : IsWellFormed raw) where
    fit : (number : ℕ) (h : Header) → get (heads_of raw) number ≡ Some h → HeaderFits (names_of raw) number h
    fit number h is = record {
      as_kind = (each_head (λ number h. (h.mode ≤ 1023) × (h.size ≤ 4294967296) × (kind_fits h.kind h.links h.size ≡ true)) (headers_fit raw well_formed) number h is).2;
      as_named = each_head (λ number h. names_fit h.kind number h.links (name_count (names_of raw) number) ≡ true) (named_rightly raw well_formed) number h is;
    }

    -- the headers of the tree are those of the rows
    pub heads_counted : headers (shown_tree (image_of raw)) ≡ heads_of raw
    heads_counted = heads_shown (image_of raw) fit

    pub cells_shown : sight (shown_tree (image_of raw)) ≡ sight_over (heads_of raw) (names_of raw)
    cells_shown = ap (λ heads. sight_over heads (names_of raw)) heads_counted

    pub node_rows : (headers (shown_tree (image_of raw))).entries ≡ map node_entry raw.nodes
    node_rows = ap (λ (heads : Table numbers Header). heads.entries) heads_counted ∙ sorted_entries numbers (map node_entry raw.nodes) (sorted_rows numbers node_entry raw.nodes (nodes_ascend raw well_formed))

    pub name_rows : (shown_tree (image_of raw)).names.entries ≡ map keyed_name raw.names
    name_rows = sorted_entries name_order (map keyed_name raw.names) (sorted_rows name_order keyed_name raw.names (names_ascend raw well_formed))

    -- ---- soundness

    abbrev head : ℕ → Option Header
    head = get (heads_of raw)

    abbrev names : NameTable
    names = names_of raw

    directories : (number : ℕ) → IsTrue (is_directory (head number)) → number ≢ 1 → name_count names number ≡ 1
    directories number directory other =
        let (h, is, kind) = some_directory (head number) directory in
        let named = subst (λ k. names_fit k number h.links (name_count names number) ≡ true) kind (fit number h is).as_named in
        ⊎_elim (λ root. absurd (other (eqb-true number 1 root))) (λ one. eqb-true _ _ one) (or_cases _ _ named)

    files : (number : ℕ) → IsTrue (is_file (head number)) → (1 ≤ name_count names number) × (name_count names number ≤ 1024)
    files number file =
        let (h, is, kind) = some_file (head number) file in
        let named = subst (λ k. names_fit k number h.links (name_count names number) ≡ true) kind (fit number h is).as_named in
        (leb-true _ _ (left _ _ (left _ _ named)), leb-true _ _ (right _ _ (left _ _ named)))

    reaches : (number : ℕ) → IsTrue (is_directory (head number)) → (steps : ℕ) × Climbs (parent_in head names) steps number 1
    reaches number directory =
        let (h, is, kind) = some_directory (head number) directory in
        let either = each_head (λ number h. (is_file (Some h) || climb_meets (parent_in head names) (length raw.nodes) 1 number) ≡ true) (climbing raw well_formed) number h is in
        ⊎_elim
        (λ file. let (other, same, kind') = some_file (Some h) file in no_both h other same kind kind')
        (λ meets. climb_from_test (parent_in head names) (length raw.nodes) 1 number meets)
        (or_cases _ _ either)
      where
        no_both : {P : Type 0} (h other : Header) → ◌≡◌ {A = Option Header} (Some h) (Some other) → h.kind ≡ Directory → other.kind ≡ File → P
        no_both h other same directory file = let one : h ≡ other = cc in let kinds : h.kind ≡ other.kind = ap (λ (x : Header). x.kind) one in cc

    module _ (spelled : IsSpelled raw) where
      names_sound : (directory : ℕ) (name : List ℕ) (number : ℕ) → target names directory name ≡ Some number → NameIsSound head names directory name number
      names_sound directory name number is =
          let leads = each_name (λ directory name number. (is_some (head number) ≡ true) × (not (number == 1) ≡ true)) (lead_to_nodes raw well_formed) directory name number is in
          record {
            spelled = each_name (λ directory name number. IsName name) spelled.names directory name number is;
            holder = each_name (λ directory name number. IsTrue (is_directory (head directory))) (in_directories raw well_formed) directory name number is;
            node = some_node (head number) leads.0;
            not_root = λ root. let no = not-true _ leads.1 in let yes = eq-eqb number 1 root in cc;
          }

      ranges : (number : ℕ) (h : Header) → head number ≡ Some h → InRange number h
      ranges number h is =
          let numbered = each_head (λ number h. (1 ≤ number) × (number ≤ 65536)) (numbers_in_range raw well_formed) number h is in
          let fitting = each_head (λ number h. (h.mode ≤ 1023) × (h.size ≤ 4294967296) × (kind_fits h.kind h.links h.size ≡ true)) (headers_fit raw well_formed) number h is in
          let ids = each_head (λ number h. (h.uid < 2 ^ 32) × (h.gid < 2 ^ 32)) spelled.ids number h is in
          record { least = numbered.0; greatest = numbered.1; mode = fitting.0; uid = ids.0; gid = ids.1; size = fitting.1 }

      pub tables_sound : AreSound head names
      tables_sound = record {
        root = root_there raw well_formed;
        names_sound = names_sound;
        directories = directories;
        files = files;
        reaches = reaches;
        ranges = ranges;
      }

      pub tree_sound : IsSound (shown_tree (image_of raw))
      tree_sound = subst (λ heads. AreSound (get heads) names) (sym heads_counted) tables_sound
