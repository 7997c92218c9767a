-- The blocks of a well formed image's extents, put at their places one after another.
use Rattle.std.proofs.Common.{◌≡◌, ℕ, zero, suc, ◌+◌, ◌-◌, ◌*◌, ◌<◌, ◌≤◌, ◌^◌, ◌==◌, ◌&&◌, nat_lt, Bool, true, false, cond, All, List, [], ◌∷◌, length, map, get_or, Some, None, inl, inr, refl, sym, ap, subst, ◌∙◌, arith, ltb-true}
use Rattle.std.specs.List.{flat_map, AllByRecursion}
use Rattle.kfs_model.specs.Limits.{block_size}
use Rattle.kfs_model.specs.Table.{pairs, numbers, empty, get, insert, retain, changed}
use Rattle.kfs_model.proofs.TableLaws.{same_entries_table}
use Rattle.kfs_model.specs.Sight.{is_file}
use Rattle.kfs_model.specs.Placement.{Place, Placement, TierSizes, AreTierSizes, tier_size, IsLaid, below}
use Rattle.kfs_model.proofs.CleanIsAllowed.{found, right}
use Rattle.kfs_model.specs.Device.Device.{Devices}
use Rattle.kfs_model.specs.Device.RawImage.{ExtentRow, RawImage, IsSpelled, heads_of, place_in, bytes_in, places_in, blocks_in, placement_of, devices_of}
use Rattle.kfs_model.specs.Device.Rules.{kind_fits}
use Rattle.kfs_model.specs.Device.Finding.{IsWellFormed}
use Rattle.kfs_model.proofs.DeviceLemmas.Among.{Among, among_map, from_map, from_flat_map}
use Rattle.kfs_model.proofs.DeviceLemmas.OnlyOne.{among_below}
use Rattle.kfs_model.proofs.DeviceLemmas.RulesHold.{IsLaid as IsLaidRow, all_laid, headers_fit}
use Rattle.kfs_model.proofs.DeviceLemmas.SoundImage.{each_head}
use Rattle.kfs_model.proofs.DeviceLemmas.LaidOut.{extents_placed, mapped_there, written_there, blocks_written}
use Rattle.kfs_image.specs.declared.codec.raw.ExtentRow.{ExtentRow as CodeExtentRow}
use Rattle.kfs_image.specs.declared.codec.raw.RawImage.{RawImage as CodeRawImage}
use Rattle.kfs_image.specs.Codec.RawImages.{extent_row_of, raw_of}
use Rattle.kfs_image.specs.Blocks.Blocks.{BlocksShown}
use Rattle.kfs_image.specs.Blocks.Fill.{less, mapped_by, written_by, placement_after, filled, CanFill}
use Rattle.kfs_image.specs.declared.blocks.fill.BlockRow.{BlockRow}
use Rattle.kfs_image.specs.Raw.Blocks.{HasItsBlocks, blocks_of_raw, placed_row, written_row}
use Rattle.kfs_image.proofs.RawLemmas.Inserted.{inserted, inserted_are, HasEach}
use Rattle.kfs_image.proofs.RawLemmas.Pushed.{flat_mapped}
use Rattle.kfs_image.proofs.RawLemmas.RawRows.{of_each}

-- ---- each extent has its blocks

tier_fits : (sizes : TierSizes) → AreTierSizes sizes → (tier : ℕ) → tier_size sizes tier ≤ 65536
tier_fits sizes fit tier = at (tier == 0) (tier == 1) (tier == 2)
  where
    at : (first second third : Bool) → cond first sizes.first (cond second sizes.second (cond third sizes.third 0)) ≤ 65536
    at true second third = fit.0
    at false true third = fit.1
    at false false true = fit.2
    at false false false = omega arith

module _ (raw : RawImage) (spelled : IsSpelled raw) (well_formed : IsWellFormed raw) where
  record Fits (row : ExtentRow) : Type 0 where
    blocks : row.block + row.count < 2 ^ 32
    places : row.place + row.count < 2 ^ 32
    full : length row.bytes ≡ row.count * 4096

  fits_of : (row : ExtentRow) → IsLaidRow raw well_formed row → Fits row
  fits_of row laid =
      let (h, shown, fits) = found (get (heads_of raw) row.number) (λ h. is_file (Some h) && nat_lt ((row.block + row.count - 1) * block_size) h.size) laid.in_file in
      let ends : (row.block + row.count - 1) * 4096 < h.size = ltb-true ((row.block + row.count - 1) * 4096) h.size (right _ _ fits) in
      let size : h.size ≤ 4294967296 = (each_head raw (λ number h. (h.mode ≤ 1023) × (h.size ≤ 4294967296) × (kind_fits h.kind h.links h.size ≡ true)) (headers_fit raw well_formed) row.number h shown).1 in
      let inside = laid.in_tier in
      let most = tier_fits raw.sizes spelled.sizes row.tier in
      record { blocks = omega (arith, ends, size); places = omega (arith, inside, most); full = laid.full }

  all_fit : (rows : List ExtentRow) → AllByRecursion (IsLaidRow raw well_formed) rows → AllByRecursion Fits rows
  all_fit [] all = tt
  all_fit (row ∷ rows) all = (fits_of row all.0, all_fit rows all.1)

-- ---- rows one after another

module _ {A : Type 0} where
  mapped_are : (rows : List (BlockRow A)) (placement : Placement) → mapped_by rows placement ≡ inserted (pairs numbers numbers) placement (map placed_row rows)
  unfolding mapped_by changed
  mapped_are [] placement = refl
  mapped_are (row ∷ rows) placement = mapped_are rows (insert placement (row.number, row.block) row.place)

  written_are : (rows : List (BlockRow A)) (devices : Devices) → written_by rows devices ≡ inserted (pairs numbers numbers) devices (map written_row rows)
  unfolding written_by
  written_are [] devices = refl
  written_are (row ∷ rows) devices = written_are rows (insert devices (row.place.tier, row.place.place) row.bytes.items)

less_of_none : (placement : Placement) → placement ≡ empty → less [] placement ≡ empty
unfolding retain
less_of_none placement none = ap (less []) none ∙ same_entries_table (less [] empty) empty refl

abbrev no_blocks : Placement
no_blocks = empty

abbrev none_written : Devices
none_written = empty

no_place : (key : ℕ × ℕ) → get no_blocks key ≡ None
unfolding get
no_place key = refl

no_bytes : (key : ℕ × ℕ) → get none_written key ≡ None
unfolding get
no_bytes key = refl

module _ {A : Type 0} (raw : CodeRawImage A) (spelled : IsSpelled (raw_of raw)) (well_formed : IsWellFormed (raw_of raw)) where
  abbrev shown : RawImage
  shown = raw_of raw

  pub have_blocks : All HasItsBlocks raw.extents.items
  have_blocks k d less =
      let fits = of_each (Fits shown spelled well_formed) extent_row_of raw.extents.items (all_fit shown spelled well_formed shown.extents (all_laid shown well_formed)) k d less in
      record { blocks = fits.blocks; places = fits.places; full = fits.full }

  -- ---- what the extents place and write

  each_placed : HasEach (pairs numbers numbers) (placement_of shown) (flat_map places_in shown.extents)
  each_placed key place among =
      let (row, listed, in_row) = from_flat_map places_in shown.extents (key, place) among in
      let (index, counted, is) = from_map (place_in row) (below row.count) (key, place) in_row in
      subst (λ (e : (ℕ × ℕ) × Place). get (placement_of shown) e.0 ≡ Some e.1) (sym is) (mapped_there shown well_formed row index listed (among_below row.count index counted))

  each_written : HasEach (pairs numbers numbers) (devices_of shown) (flat_map blocks_in shown.extents)
  each_written key bytes among =
      let (row, listed, in_row) = from_flat_map blocks_in shown.extents (key, bytes) among in
      let (index, counted, is) = from_map (bytes_in row) (below row.count) (key, bytes) in_row in
      subst (λ (e : (ℕ × ℕ) × List ℕ). get (devices_of shown) e.0 ≡ Some e.1) (sym is) (written_there shown well_formed row index listed (among_below row.count index counted))

  module _ (rows : List (BlockRow A)) (extents : List (CodeExtentRow A)) (are : extents ≡ raw.extents.items)
      (placed : map placed_row rows ≡ flat_map (λ e. places_in (extent_row_of e)) extents) (written : map written_row rows ≡ flat_map (λ e. blocks_in (extent_row_of e)) extents) where
    placed_are : map placed_row rows ≡ flat_map places_in shown.extents
    placed_are = placed ∙ flat_mapped places_in extent_row_of extents ∙ ap (λ es. flat_map places_in (map extent_row_of es)) are

    bytes_are : map written_row rows ≡ flat_map blocks_in shown.extents
    bytes_are = written ∙ flat_mapped blocks_in extent_row_of extents ∙ ap (λ es. flat_map blocks_in (map extent_row_of es)) are

    placement_made : mapped_by rows no_blocks ≡ placement_of shown
    placement_made =
        mapped_are rows no_blocks
        ∙ ap (inserted (pairs numbers numbers) no_blocks) placed_are
        ∙ inserted_are (pairs numbers numbers) no_blocks (flat_map places_in shown.extents) each_placed (λ key none. no_place key)

    devices_made : written_by rows none_written ≡ devices_of shown
    devices_made =
        written_are rows none_written
        ∙ ap (inserted (pairs numbers numbers) none_written) bytes_are
        ∙ inserted_are (pairs numbers numbers) none_written (flat_map blocks_in shown.extents) each_written (λ key none. no_bytes key)

    module _ (before : BlocksShown) (fresh : before ≡ record { sizes = raw.sizes; placement = empty; devices = empty }) where
      placed_after : placement_after [] rows before.placement ≡ placement_of shown
      placed_after = ap (mapped_by rows) (less_of_none before.placement (ap (λ (b : BlocksShown). b.placement) fresh)) ∙ placement_made

      pub filled_are : filled [] rows before ≡ blocks_of_raw shown
      filled_are =
          λ i. record {
            sizes = (fresh i).sizes;
            placement = placed_after i;
            devices = (ap (λ (b : BlocksShown). written_by rows b.devices) fresh ∙ devices_made) i;
          }

      -- each row's place and bytes are written there
      row_written : (k : ℕ) (d : BlockRow A) → k < length rows → get (devices_of shown) ((get_or rows k d).place.tier, (get_or rows k d).place.place) ≡ Some (get_or rows k d).bytes.items
      row_written k d less = each_written _ _ (subst (Among (written_row (get_or rows k d))) bytes_are (among_map written_row rows (get_or rows k d) (listed rows k less)))
        where
          listed : (rows : List (BlockRow A)) (k : ℕ) → k < length rows → Among (get_or rows k d) rows
          listed [] k less = absurd (omega (arith, less))
          listed (row ∷ rows) zero less = inl refl
          listed (row ∷ rows) (suc k) less = inr (listed rows k (omega (arith, less)))

      pub can_fill : CanFill before [] rows
      can_fill = record {
        laid = subst (λ sizes. IsLaid sizes (placement_after [] rows before.placement)) (sym (ap (λ (b : BlocksShown). b.sizes) fresh)) (subst (IsLaid raw.sizes) (sym placed_after) (extents_placed shown well_formed).laid);
        in_tier = λ k d less.
            let row : BlockRow A = get_or rows k d in
            subst (λ sizes. row.place.place < tier_size sizes row.place.tier) (sym (ap (λ (b : BlocksShown). b.sizes) fresh)) ((blocks_written shown well_formed).in_tier row.place.tier row.place.place row.bytes.items (row_written k d less));
        whole = λ k d less.
            let row : BlockRow A = get_or rows k d in
            let long : length row.bytes.items ≡ block_size = (blocks_written shown well_formed).full row.place.tier row.place.place row.bytes.items (row_written k d less) in
            omega (arith, row.bytes.ok.0, long);
      }
