-- What the rules say of the rows of a well formed image.
use Rattle.std.proofs.Common.{◌≡◌, ℕ, ◌+◌, ◌*◌, ◌≤◌, ◌==◌, ◌&&◌, ◌||◌, not, Bool, true, false, List, [], ◌∷◌, length, map, count_by, Option, Some, None, is_some, IsTrue, refl, eq-eqb, eqb-true, leb-true}
use Rattle.std.specs.List.{list_any, AllByRecursion}
use Rattle.std.proofs.lemmas.Bool.{or_parts}
use Rattle.kfs_model.specs.Table.{numbers, pairs, get}
use Rattle.kfs_model.specs.Tree.{name_order, name_count}
use Rattle.kfs_model.specs.Sight.{is_directory, is_file}
use Rattle.kfs_model.specs.Placement.{tier_size}
use Rattle.kfs_model.specs.Spelling.{greatest_mode_of}
use Rattle.kfs_model.proofs.CleanIsAllowed.{left, right}
use Rattle.kfs_model.proofs.Fields.{mode_in_range}
use Rattle.kfs_model.specs.Plan.{keyed_name}
use Rattle.kfs_model.specs.Device.RawImage.{ExtentRow, RawImage, node_entry, heads_of, names_of}
use Rattle.kfs_model.specs.Device.Rules.{Test, with_previous, is_above, number_test, rule_1, rule_2, kind_fits, header_test, rule_3, directory_test, rule_4, target_test, rule_5, names_fit, names_test, rule_6, reaches_root, climb_test, rule_7, share_block, share_place, ends_in_file, is_extent, extent_test, rule_8, tier_test, rule_9, place_test, rule_10}
use Rattle.kfs_model.specs.Device.Finding.{fails_at, IsWellFormed}
use Rattle.kfs_model.proofs.DeviceLemmas.LeastFinding.{none_is_broken}
use Rattle.kfs_model.proofs.DeviceLemmas.RowTables.{AreAbove}

-- ---- tests that hold

abbrev pub AllHold : List Test → Type 0
AllHold tests = AllByRecursion (λ test. test.holds ≡ true) tests

hold_from_none : (tests : List Test) → ((number : ℕ) → list_any (fails_at number) tests ≡ false) → AllHold tests
hold_from_none [] none = tt
hold_from_none (t ∷ ts) none = (
  at t.holds (or_parts _ _ (none t.number)).0,
  hold_from_none ts (λ number. (or_parts _ _ (none number)).1),
)
  where
    at : (holds : Bool) → (not holds && (t.number == t.number)) ≡ false → holds ≡ true
    at true fails = refl
    at false fails = let same = eq-eqb t.number t.number refl in cc

module _ {X : Type 0} (P : X → Type 0) where
  -- what the test of each row says
  each_tested : (tested : X → Test) → ((x : X) → (tested x).holds ≡ true → P x) → (xs : List X) → AllHold (map tested xs) → AllByRecursion P xs
  each_tested tested says [] hold = tt
  each_tested tested says (x ∷ xs) hold = (says x hold.0, each_tested tested says xs hold.1)

  each_behind : (tested : Option X × X → Test) → ((previous : Option X) (x : X) → (tested (previous, x)).holds ≡ true → P x) → (previous : Option X) (xs : List X) → AllHold (map tested (with_previous previous xs)) → AllByRecursion P xs
  each_behind tested says previous [] hold = tt
  each_behind tested says previous (x ∷ xs) hold = (says previous x hold.0, each_behind tested says (Some x) xs hold.1)

-- ---- rule by rule

module _ (raw : RawImage) (well_formed : IsWellFormed raw) where
  holds_1 : AllHold (rule_1 raw)
  unfolding get
  holds_1 = hold_from_none (rule_1 raw) (none_is_broken raw well_formed 1)

  holds_2 : AllHold (rule_2 raw)
  unfolding get
  holds_2 = hold_from_none (rule_2 raw) (none_is_broken raw well_formed 2)

  holds_3 : AllHold (rule_3 raw)
  unfolding get
  holds_3 = hold_from_none (rule_3 raw) (none_is_broken raw well_formed 3)

  holds_4 : AllHold (rule_4 raw)
  unfolding get
  holds_4 = hold_from_none (rule_4 raw) (none_is_broken raw well_formed 4)

  holds_5 : AllHold (rule_5 raw)
  unfolding get
  holds_5 = hold_from_none (rule_5 raw) (none_is_broken raw well_formed 5)

  holds_6 : AllHold (rule_6 raw)
  unfolding get
  holds_6 = hold_from_none (rule_6 raw) (none_is_broken raw well_formed 6)

  holds_7 : AllHold (rule_7 raw)
  unfolding get
  holds_7 = hold_from_none (rule_7 raw) (none_is_broken raw well_formed 7)

  holds_8 : AllHold (rule_8 raw)
  unfolding get
  holds_8 = hold_from_none (rule_8 raw) (none_is_broken raw well_formed 8)

  holds_9 : AllHold (rule_9 raw)
  unfolding get
  holds_9 = hold_from_none (rule_9 raw) (none_is_broken raw well_formed 9)

  holds_10 : AllHold (rule_10 raw)
  unfolding get
  holds_10 = hold_from_none (rule_10 raw) (none_is_broken raw well_formed 10)

  -- ---- nodes

  pub nodes_ascend : AreAbove numbers node_entry (with_previous None raw.nodes)
  nodes_ascend = each_tested (λ e. is_above numbers (λ row. row.number) e ≡ true) number_test (λ e holds. left _ _ (left _ _ holds)) (with_previous None raw.nodes) holds_1

  pub numbers_in_range : AllByRecursion (λ row. (1 ≤ row.number) × (row.number ≤ 65536)) raw.nodes
  numbers_in_range =
      each_behind (λ row. (1 ≤ row.number) × (row.number ≤ 65536)) number_test
      (λ previous row holds. (leb-true 1 row.number (right _ _ (left _ _ holds)), leb-true row.number 65536 (right _ _ holds)))
      None raw.nodes holds_1

  pub root_there : IsTrue (is_directory (get (heads_of raw) 1))
  root_there = holds_2.0

  pub headers_fit : AllByRecursion (λ row. (row.header.mode ≤ 1023) × (row.header.size ≤ 4294967296) × (kind_fits row.header.kind row.header.links row.header.size ≡ true)) raw.nodes
  headers_fit =
      each_tested (λ row. (row.header.mode ≤ 1023) × (row.header.size ≤ 4294967296) × (kind_fits row.header.kind row.header.links row.header.size ≡ true)) (header_test raw.version)
      (λ row holds. (mode_in_range raw.version row.header.mode (leb-true row.header.mode (greatest_mode_of raw.version) (left _ _ (left _ _ holds))), leb-true row.header.size 4294967296 (right _ _ (left _ _ holds)), right _ _ holds))
      raw.nodes holds_3

  pub named_rightly : AllByRecursion (λ row. names_fit row.header.kind row.number row.header.links (name_count (names_of raw) row.number) ≡ true) raw.nodes
  named_rightly = each_tested (λ row. names_fit row.header.kind row.number row.header.links (name_count (names_of raw) row.number) ≡ true) (names_test (names_of raw)) (λ row holds. holds) raw.nodes holds_6

  pub climbing : AllByRecursion (λ row. (is_file (Some row.header) || reaches_root raw row.number) ≡ true) raw.nodes
  climbing = each_tested (λ row. (is_file (Some row.header) || reaches_root raw row.number) ≡ true) (climb_test raw) (λ row holds. holds) raw.nodes holds_7

  -- ---- names

  pub names_ascend : AreAbove name_order keyed_name (with_previous None raw.names)
  names_ascend =
      each_tested (λ e. is_above name_order (λ row. (row.directory, row.name)) e ≡ true) (directory_test (heads_of raw)) (λ e holds. left _ _ holds) (with_previous None raw.names) holds_4

  pub in_directories : AllByRecursion (λ row. IsTrue (is_directory (get (heads_of raw) row.directory))) raw.names
  in_directories = each_behind (λ row. IsTrue (is_directory (get (heads_of raw) row.directory))) (directory_test (heads_of raw)) (λ previous row holds. right _ _ holds) None raw.names holds_4

  pub lead_to_nodes : AllByRecursion (λ row. (is_some (get (heads_of raw) row.number) ≡ true) × (not (row.number == 1) ≡ true)) raw.names
  lead_to_nodes =
      each_tested (λ row. (is_some (get (heads_of raw) row.number) ≡ true) × (not (row.number == 1) ≡ true)) (target_test (heads_of raw)) (λ row holds. (left _ _ holds, right _ _ holds)) raw.names holds_5

  -- ---- extents

  pub extents_ascend : AllByRecursion (λ e. is_above (pairs numbers numbers) (λ (row : ExtentRow). (row.number, row.block)) e ≡ true) (with_previous None raw.extents)
  extents_ascend =
      each_tested (λ e. is_above (pairs numbers numbers) (λ row. (row.number, row.block)) e ≡ true) (extent_test (heads_of raw) raw.extents) (λ e holds. left _ _ (left _ _ holds)) (with_previous None raw.extents) holds_8

  -- what the rules say of an extent
  pub record IsLaid (row : ExtentRow) : Type 0 where
    pub in_file : ends_in_file (get (heads_of raw) row.number) row ≡ true
    pub some : 1 ≤ row.count
    pub full : length row.bytes ≡ row.count * 4096
    pub own_blocks : count_by (share_block row) raw.extents ≤ 1
    pub within : row.tier ≤ 2
    pub in_tier : row.place + row.count ≤ tier_size raw.sizes row.tier
    pub own_places : count_by (share_place row) raw.extents ≤ 1

  pub in_files : AllByRecursion (λ row. (ends_in_file (get (heads_of raw) row.number) row ≡ true) × (is_extent raw.extents row ≡ true)) raw.extents
  in_files =
      each_behind (λ row. (ends_in_file (get (heads_of raw) row.number) row ≡ true) × (is_extent raw.extents row ≡ true)) (extent_test (heads_of raw) raw.extents)
      (λ previous row holds. (right _ _ (left _ _ holds), right _ _ holds)) None raw.extents holds_8

  pub in_tiers : AllByRecursion (λ row. (row.tier ≤ 2) × (row.place + row.count ≤ tier_size raw.sizes row.tier)) raw.extents
  in_tiers =
      each_tested (λ row. (row.tier ≤ 2) × (row.place + row.count ≤ tier_size raw.sizes row.tier)) (tier_test raw.sizes)
      (λ row holds. (leb-true row.tier 2 (left _ _ holds), leb-true _ _ (right _ _ holds))) raw.extents holds_9

  pub apart_places : AllByRecursion (λ row. count_by (share_place row) raw.extents ≤ 1) raw.extents
  apart_places = each_tested (λ row. count_by (share_place row) raw.extents ≤ 1) (place_test raw.extents) (λ row holds. leb-true (count_by (share_place row) raw.extents) 1 holds) raw.extents holds_10

  pub all_laid : AllByRecursion IsLaid raw.extents
  all_laid = together raw.extents in_files in_tiers apart_places
    where
      together : (rows : List ExtentRow) → AllByRecursion (λ row. (ends_in_file (get (heads_of raw) row.number) row ≡ true) × (is_extent raw.extents row ≡ true)) rows
          → AllByRecursion (λ row. (row.tier ≤ 2) × (row.place + row.count ≤ tier_size raw.sizes row.tier)) rows → AllByRecursion (λ row. count_by (share_place row) raw.extents ≤ 1) rows → AllByRecursion IsLaid rows
      together [] file tier place = tt
      together (row ∷ rows) file tier place = (
        record {
          in_file = file.0.0;
          some = leb-true 1 row.count (left _ _ (left _ _ file.0.1));
          full = eqb-true _ _ (right _ _ (left _ _ file.0.1));
          own_blocks = leb-true _ _ (right _ _ file.0.1);
          within = tier.0.0;
          in_tier = tier.0.1;
          own_places = place.0;
        },
        together rows file.1 tier.1 place.1,
      )
