-- The extents of a well formed image: each of their blocks lies where its extent says, and nothing else lies anywhere.
use Rattle.std.proofs.Common.{◌≡◌, ℕ, ◌+◌, ◌-◌, ◌*◌, ◌<◌, ◌≤◌, ◌==◌, ◌&&◌, not, Bool, true, List, [], ◌∷◌, length, map, take, drop, inl, inr, Some, refl, sym, ap, subst, ◌∙◌, arith, eq-eqb, eqb-true, lt-ltb, ltb-true, le-leb, leb-true}
use Rattle.std.specs.List.{list_any, flat_map, AllByRecursion}
use Rattle.std.proofs.lemmas.Bool.{and_from}
use Rattle.std.proofs.lemmas.List.{length-take-le, length-drop}
use Rattle.kfs_model.specs.Table.{numbers, pairs, get}
use Rattle.kfs_model.specs.Placement.{Place, IsBlock, IsPlacement, tier_size, is_free, below}
use Rattle.kfs_model.proofs.CleanIsAllowed.{found, left, right}
use Rattle.kfs_model.proofs.Tables.{found_from_any, any_from_found}
use Rattle.kfs_model.specs.Device.Device.{AreBlocks}
use Rattle.kfs_model.specs.Device.RawImage.{ExtentRow, RawImage, heads_of, place_in, bytes_in, places_in, blocks_in, placement_of, devices_of, IsLaidOut, has_place}
use Rattle.kfs_model.specs.Device.Rules.{overlap, share_block, share_place}
use Rattle.kfs_model.specs.Device.Finding.{IsWellFormed}
use Rattle.kfs_model.proofs.DeviceLemmas.Among.{Among, among_all, among_map, from_map, among_flat_map, from_flat_map}
use Rattle.kfs_model.proofs.DeviceLemmas.OnlyOne.{any_among, among_any, only_one, below_among, among_below}
use Rattle.kfs_model.proofs.DeviceLemmas.RowTables.{get_among, among_get}
use Rattle.kfs_model.proofs.DeviceLemmas.RulesHold.{IsLaid, all_laid}
use Rattle.kfs_model.proofs.DeviceLemmas.Truth.{same_truth}

-- ---- extents that have a number in common

overlapping : (first count other other_count i j : ℕ) → i < count → j < other_count → first + i ≡ other + j → overlap first count other other_count ≡ true
overlapping first count other other_count i j fits fits' same = and_from _ _ (lt-ltb first (other + other_count) (omega arith)) (lt-ltb other (first + count) (omega arith))

shares_place : (row other : ExtentRow) (i j : ℕ) → i < row.count → j < other.count → row.tier ≡ other.tier → row.place + i ≡ other.place + j → share_place row other ≡ true
shares_place row other i j fits fits' tier place = and_from _ _ (eq-eqb row.tier other.tier tier) (overlapping row.place row.count other.place other.count i j fits fits' place)

shares_block : (row other : ExtentRow) (i j : ℕ) → i < row.count → j < other.count → row.number ≡ other.number → row.block + i ≡ other.block + j → share_block row other ≡ true
shares_block row other i j fits fits' number block = and_from _ _ (eq-eqb row.number other.number number) (overlapping row.block row.count other.block other.count i j fits fits' block)

module _ (raw : RawImage) where
  -- the block of an extent that an entry comes from
  record Comes {X : Type 0} (entry_in : ExtentRow → ℕ → (ℕ × ℕ) × X) (entry : (ℕ × ℕ) × X) : Type 0 where
    row : ExtentRow
    among : Among row raw.extents
    index : ℕ
    within : index < row.count
    is : entry ≡ entry_in row index

  comes_from : {X : Type 0} (entry_in : ExtentRow → ℕ → (ℕ × ℕ) × X) (entry : (ℕ × ℕ) × X) → Among entry (flat_map (λ row. map (entry_in row) (below row.count)) raw.extents) → Comes entry_in entry
  comes_from entry_in entry there =
      let (row, among, in_row) = from_flat_map (λ row. map (entry_in row) (below row.count)) raw.extents entry there in
      let (index, listed, is) = from_map (entry_in row) (below row.count) entry in_row in
      record { row = row; among = among; index = index; within = among_below row.count index listed; is = is }

  goes_to : {X : Type 0} (entry_in : ExtentRow → ℕ → (ℕ × ℕ) × X) (row : ExtentRow) (index : ℕ) → Among row raw.extents → index < row.count
      → Among (entry_in row index) (flat_map (λ row. map (entry_in row) (below row.count)) raw.extents)
  goes_to entry_in row index among within =
      among_flat_map (λ row. map (entry_in row) (below row.count)) raw.extents row (entry_in row index) among (among_map (entry_in row) (below row.count) index (below_among row.count index within))

  placed_by : (block : ℕ × ℕ) (place : Place) → get (placement_of raw) block ≡ Some place → Comes place_in (block, place)
  placed_by block place is = comes_from place_in (block, place) (get_among (pairs numbers numbers) (flat_map places_in raw.extents) block place is)

  written_by : (place : ℕ × ℕ) (bytes : List ℕ) → get (devices_of raw) place ≡ Some bytes → Comes bytes_in (place, bytes)
  written_by place bytes is = comes_from bytes_in (place, bytes) (get_among (pairs numbers numbers) (flat_map blocks_in raw.extents) place bytes is)

  module _ (well_formed : IsWellFormed raw) where
    laid : (row : ExtentRow) → Among row raw.extents → IsLaid raw well_formed row
    laid row among = among_all (IsLaid raw well_formed) raw.extents row (all_laid raw well_formed) among

    -- two extents with a place in common are one
    one_at_place : (row other : ExtentRow) (i j : ℕ) → Among row raw.extents → Among other raw.extents → i < row.count → j < other.count → row.tier ≡ other.tier → row.place + i ≡ other.place + j → row ≡ other
    one_at_place row other i j among also fits fits' tier place =
        only_one (share_place row) raw.extents (laid row among).own_places row other among (shares_place row row i i fits fits refl refl) also (shares_place row other i j fits fits' tier place)

    one_with_block : (row other : ExtentRow) (i j : ℕ) → Among row raw.extents → Among other raw.extents → i < row.count → j < other.count → row.number ≡ other.number → row.block + i ≡ other.block + j → row ≡ other
    one_with_block row other i j among also fits fits' number block =
        only_one (share_block row) raw.extents (laid row among).own_blocks row other among (shares_block row row i i fits fits refl refl) also (shares_block row other i j fits fits' number block)

    -- ---- the placement

    apart : (block other : ℕ × ℕ) (place : Place) → get (placement_of raw) block ≡ Some place → get (placement_of raw) other ≡ Some place → block ≡ other
    apart block other place is also =
        let one = placed_by block place is in
        let two = placed_by other place also in
        let at_one : place ≡ (place_in one.row one.index).1 = ap (λ (e : (ℕ × ℕ) × Place). e.1) one.is in
        let at_two : place ≡ (place_in two.row two.index).1 = ap (λ (e : (ℕ × ℕ) × Place). e.1) two.is in
        let places : one.row.place + one.index ≡ two.row.place + two.index = ap (λ (p : Place). p.place) (sym at_one ∙ at_two) in
        let rows = one_at_place one.row two.row one.index two.index one.among two.among one.within two.within (ap (λ (p : Place). p.tier) (sym at_one ∙ at_two)) places in
        let firsts : one.row.place ≡ two.row.place = ap (λ (row : ExtentRow). row.place) rows in
        let indexes : one.index ≡ two.index = omega arith in
        ap (λ (e : (ℕ × ℕ) × Place). e.0) one.is ∙ (λ i. (place_in (rows i) (indexes i)).0) ∙ ap (λ (e : (ℕ × ℕ) × Place). e.0) (sym two.is)

    in_tier : (block : ℕ × ℕ) (place : Place) → get (placement_of raw) block ≡ Some place → place.place < tier_size raw.sizes place.tier
    in_tier block place is =
        let one = placed_by block place is in
        let fits = (laid one.row one.among).in_tier in
        let inside = one.within in
        let below_size : one.row.place + one.index < tier_size raw.sizes one.row.tier = omega arith in
        subst (λ (e : (ℕ × ℕ) × Place). e.1.place < tier_size raw.sizes e.1.tier) (sym one.is) below_size

    of_files : (number block : ℕ) (place : Place) → get (placement_of raw) (number, block) ≡ Some place → IsBlock (get (heads_of raw)) number block
    of_files number block place is =
        let one = placed_by (number, block) place is in
        let (h, shown, fits) = found (get (heads_of raw) one.row.number) _ (laid one.row one.among).in_file in
        let ends : (one.row.block + one.row.count - 1) * 4096 < h.size = ltb-true ((one.row.block + one.row.count - 1) * 4096) h.size (right _ _ fits) in
        let inside = one.within in
        let begins : (one.row.block + one.index) * 4096 < h.size = omega arith in
        let own : IsBlock (get (heads_of raw)) one.row.number (one.row.block + one.index) = record { header = h; shown = shown; file = left _ _ fits; begins = begins } in
        subst (λ (e : (ℕ × ℕ) × Place). IsBlock (get (heads_of raw)) e.0.0 e.0.1) (sym one.is) own

    pub extents_placed : IsPlacement raw.sizes (get (heads_of raw)) (placement_of raw)
    extents_placed = record { laid = record { apart = apart; in_tier = in_tier }; of_files = of_files }

    -- ---- each block of each extent

    pub mapped_there : (row : ExtentRow) (index : ℕ) → Among row raw.extents → index < row.count → get (placement_of raw) (place_in row index).0 ≡ Some (place_in row index).1
    mapped_there row index among within =
        among_get (pairs numbers numbers) (flat_map places_in raw.extents) (place_in row index).0 (place_in row index).1 (goes_to place_in row index among within) one
      where
        one : (other : Place) → Among ((place_in row index).0, other) (flat_map places_in raw.extents) → other ≡ (place_in row index).1
        one other there =
            let two = comes_from place_in ((place_in row index).0, other) there in
            let keys : (place_in row index).0 ≡ (place_in two.row two.index).0 = ap (λ (e : (ℕ × ℕ) × Place). e.0) two.is in
            let blocks : row.block + index ≡ two.row.block + two.index = ap (λ (k : ℕ × ℕ). k.1) keys in
            let rows = one_with_block row two.row index two.index among two.among within two.within (ap (λ (k : ℕ × ℕ). k.0) keys) blocks in
            let firsts : row.block ≡ two.row.block = ap (λ (row : ExtentRow). row.block) rows in
            let indexes : index ≡ two.index = omega arith in
            ap (λ (e : (ℕ × ℕ) × Place). e.1) two.is ∙ sym (λ i. (place_in (rows i) (indexes i)).1)

    pub written_there : (row : ExtentRow) (index : ℕ) → Among row raw.extents → index < row.count → get (devices_of raw) (bytes_in row index).0 ≡ Some (bytes_in row index).1
    written_there row index among within =
        among_get (pairs numbers numbers) (flat_map blocks_in raw.extents) (bytes_in row index).0 (bytes_in row index).1 (goes_to bytes_in row index among within) one
      where
        one : (other : List ℕ) → Among ((bytes_in row index).0, other) (flat_map blocks_in raw.extents) → other ≡ (bytes_in row index).1
        one other there =
            let two = comes_from bytes_in ((bytes_in row index).0, other) there in
            let keys : (bytes_in row index).0 ≡ (bytes_in two.row two.index).0 = ap (λ (e : (ℕ × ℕ) × List ℕ). e.0) two.is in
            let places : row.place + index ≡ two.row.place + two.index = ap (λ (k : ℕ × ℕ). k.1) keys in
            let rows = one_at_place row two.row index two.index among two.among within two.within (ap (λ (k : ℕ × ℕ). k.0) keys) places in
            let firsts : row.place ≡ two.row.place = ap (λ (row : ExtentRow). row.place) rows in
            let indexes : index ≡ two.index = omega arith in
            ap (λ (e : (ℕ × ℕ) × List ℕ). e.1) two.is ∙ sym (λ i. (bytes_in (rows i) (indexes i)).1)

    pub laid_out : AllByRecursion (IsLaidOut raw) raw.extents
    laid_out = each raw.extents (λ row among. record { mapped = λ index within. mapped_there row index among within; written = λ index within. written_there row index among within })
      where
        each : (rows : List ExtentRow) → ((row : ExtentRow) → Among row rows → IsLaidOut raw row) → AllByRecursion (IsLaidOut raw) rows
        each [] all = tt
        each (row ∷ rows) all = (all row (inl refl), each rows (λ other among. all other (inr among)))

    -- ---- the devices

    written_in_tier : (tier place : ℕ) (bytes : List ℕ) → get (devices_of raw) (tier, place) ≡ Some bytes → place < tier_size raw.sizes tier
    written_in_tier tier place bytes is =
        let one = written_by (tier, place) bytes is in
        let fits = (laid one.row one.among).in_tier in
        let inside = one.within in
        let below_size : one.row.place + one.index < tier_size raw.sizes one.row.tier = omega arith in
        subst (λ (e : (ℕ × ℕ) × List ℕ). e.0.1 < tier_size raw.sizes e.0.0) (sym one.is) below_size

    cut_whole : (bytes : List ℕ) (count index : ℕ) → length bytes ≡ count * 4096 → index < count → length (take 4096 (drop (index * 4096) bytes)) ≡ 4096
    cut_whole bytes count index whole within =
        let rest = length-drop (index * 4096) bytes in
        length-take-le 4096 (drop (index * 4096) bytes) (omega arith)

    written_full : (tier place : ℕ) (bytes : List ℕ) → get (devices_of raw) (tier, place) ≡ Some bytes → length bytes ≡ 4096
    written_full tier place bytes is =
        let one = written_by (tier, place) bytes is in
        ap (λ (e : (ℕ × ℕ) × List ℕ). length e.1) one.is ∙ cut_whole one.row.bytes one.row.count one.index (laid one.row one.among).full one.within

    pub blocks_written : AreBlocks raw.sizes (devices_of raw)
    blocks_written = record { in_tier = written_in_tier; full = written_full }

    -- ---- free places

    abbrev lies_there : Place → (ℕ × ℕ) × Place → Bool
    lies_there place e = (e.1.tier == place.tier) && (e.1.place == place.place)

    covered : (place : Place) → list_any (lies_there place) (placement_of raw).entries ≡ true → list_any (has_place place) raw.extents ≡ true
    unfolding get
    covered place any =
        let (block, at, is, passes) = found_from_any (pairs numbers numbers) (lies_there place) (placement_of raw).entries (placement_of raw).sorted any in
        let one = placed_by block at is in
        let inside = one.within in
        let tiers : one.row.tier ≡ place.tier = ap (λ (e : (ℕ × ℕ) × Place). e.1.tier) (sym one.is) ∙ eqb-true at.tier place.tier (left _ _ passes) in
        let places : one.row.place + one.index ≡ place.place = ap (λ (e : (ℕ × ℕ) × Place). e.1.place) (sym one.is) ∙ eqb-true at.place place.place (right _ _ passes) in
        any_among (has_place place) raw.extents one.row one.among
        (and_from _ _ (and_from _ _ (eq-eqb one.row.tier place.tier tiers) (le-leb one.row.place place.place (omega arith))) (lt-ltb place.place (one.row.place + one.row.count) (omega arith)))

    covering : (place : Place) → list_any (has_place place) raw.extents ≡ true → list_any (lies_there place) (placement_of raw).entries ≡ true
    unfolding get
    covering place any =
        let (row, among, has) = among_any (has_place place) raw.extents any in
        let least : row.place ≤ place.place = leb-true row.place place.place (right _ _ (left _ _ has)) in
        let less : place.place < row.place + row.count = ltb-true place.place (row.place + row.count) (right _ _ has) in
        let within : place.place - row.place < row.count = omega arith in
        let there : row.place + (place.place - row.place) ≡ place.place = omega arith in
        any_from_found (pairs numbers numbers) (lies_there place) (placement_of raw).entries _ _ (mapped_there row (place.place - row.place) among within)
        (and_from _ _ (left _ _ (left _ _ has)) (eq-eqb _ _ there))

    -- no block lies at a place exactly where no extent has it
    pub free_is_in_none : (place : Place) → is_free (placement_of raw) place ≡ not (list_any (has_place place) raw.extents)
    free_is_in_none place = ap not (same_truth _ _ (covered place) (covering place))
