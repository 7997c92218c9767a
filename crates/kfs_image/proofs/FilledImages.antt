-- An image stays lawful where its blocks come to lie elsewhere and have other bytes, as long as each lies in a place of its own. So the
-- rows of a fill whose places are free can be applied after a net.
use Rattle.std.proofs.Common.{◌≡◌, ◌≢◌, ℕ, suc, ◌<◌, ◌⊎◌, inl, inr, ⊎_elim, Bool, true, false, cond, All, List, [], ◌∷◌, length, get_or, Option, Some, None, option_map, refl, sym, ap, subst, ◌∙◌, arith}
use Rattle.std.specs.Prelude.{vec_len}
use Rattle.std.specs.declared.cmp.Ordering.{Ordering}
use Rattle.std.specs.declared.cmp.Ordering.TheVariants.{Less, Equal, Greater}
use Rattle.std.specs.Ordering.{is_eq, eq_by_cmp}
use Rattle.std.proofs.lemmas.Bool.{both_ways, cases_Bool}
use Rattle.kfs_model.specs.Header.{Kind, File, Directory, Header}
use Rattle.kfs_model.specs.Limits.{block_size}
use Rattle.kfs_model.specs.Table.{Order, Table, numbers, pairs, get, insert, retain, changed}
use Rattle.kfs_model.specs.Tree.{headers, node_header, node_over}
use Rattle.kfs_model.specs.Soundness.{AreSound}
use Rattle.kfs_model.specs.Placement.{TierSizes, Place, Placement, IsBlock, IsPlacement, is_free, tier_size}
use Rattle.kfs_model.proofs.Heads.{get-headers}
use Rattle.kfs_model.proofs.TableLaws.{same_table, get-changed, get-insert, get-mapped, get-retain}
use Rattle.kfs_model.specs.Device.Device.{Devices, AreBlocks}
use Rattle.kfs_model.specs.Device.ShownTree.{DeviceImage, IsLawful, file_bytes, shown_tree}
use Rattle.kfs_model.proofs.DeviceLemmas.ShownHeads.{length-file_bytes}
use Rattle.kfs_image.proofs.TierLemmas.MovedPlaces.{used_by, used_from}
use Rattle.kfs_image.specs.declared.blocks.fill.BlockRow.{BlockRow}
use Rattle.kfs_image.specs.declared.blocks.fill.BlockRun.{BlockRun}
use Rattle.kfs_image.specs.Blocks.Fill.{less, mapped_by, written_by}
use Rattle.kfs_image_nodes.specs.declared.net.Net.{Net}
use Rattle.kfs_image_nodes.specs.Change.{reheaded}
use Rattle.kfs_image.specs.declared.net.Fill.{Fill}
use Rattle.kfs_image.specs.Net.{CanApply, after_net, cut, is_block}
use Rattle.kfs_image.proofs.KeptTrees.{block_of_file, from_cut}

-- ---- what rows ask of an image

-- The row's place lies in its tier and has no block. Its block begins below the size of its file, and is whole.
pub record FitsRow {A : Type 0} (image : DeviceImage) (row : BlockRow A) : Type 0 where
  pub in_tier : row.place.place < tier_size image.sizes row.place.tier
  pub free : is_free image.placement row.place ≡ true
  pub of_file : is_block image.heads (row.number, row.block) ≡ true
  pub whole : vec_len row.bytes ≡ block_size

-- no two rows have one place
abbrev pub ArePlacedApart : {A : Type 0} → List (BlockRow A) → Type 0
ArePlacedApart {A} rows = (i j : ℕ) (d : BlockRow A) → i < j → j < length rows → (get_or rows i d).place ≢ (get_or rows j d).place

-- so of each row, and each has a place of its own
pub record Fit {A : Type 0} (image : DeviceImage) (rows : List (BlockRow A)) : Type 0 where
  pub each : All (FitsRow image) rows
  pub apart : ArePlacedApart rows

-- ---- the tree is sound whatever bytes the files have

shown_header : (image : DeviceImage) (number : ℕ) → get (headers (shown_tree image)) number ≡ option_map (node_header image.names number) (option_map (node_over (file_bytes image.placement image.devices) number) (get image.heads number))
shown_header image number = get-headers (shown_tree image) number ∙ ap (option_map (node_header image.names number)) (get-mapped (node_over (file_bytes image.placement image.devices)) image.heads number)

module _ (image : DeviceImage) (placement : Placement) (devices : Devices) where
  -- the header that a node has over the blocks of now, and over these
  abbrev header_now : ℕ → Header → Header
  header_now number h = node_header image.names number (node_over (file_bytes image.placement image.devices) number h)

  abbrev header_then : ℕ → Header → Header
  header_then number h = node_header image.names number (node_over (file_bytes placement devices) number h)

  header_alike : (number : ℕ) (h : Header) → header_then number h ≡ header_now number h
  header_alike number h = by h.kind
    where
      by : (kind : Kind) → header_then number (record h { kind = kind }) ≡ header_now number (record h { kind = kind })
      by File = λ i. record (header_then number (record h { kind = File })) { size = (length-file_bytes placement devices number h.size ∙ sym (length-file_bytes image.placement image.devices number h.size)) i }
      by Directory = refl

  heads_alike : headers (shown_tree (record image { placement = placement; devices = devices })) ≡ headers (shown_tree image)
  heads_alike = same_table _ _ (λ number. shown_header (record image { placement = placement; devices = devices }) number ∙ by number (get image.heads number) ∙ sym (shown_header image number))
    where
      by : (number : ℕ) (o : Option Header) → option_map (node_header image.names number) (option_map (node_over (file_bytes placement devices) number) o)
          ≡ option_map (node_header image.names number) (option_map (node_over (file_bytes image.placement image.devices) number) o)
      by number None = refl
      by number (Some h) = ap Some (header_alike number h)

  -- the image with its blocks at these places, and these bytes there
  pub relaid_is_lawful : IsLawful image → IsPlacement image.sizes (get image.heads) placement → AreBlocks image.sizes devices → IsLawful (record image { placement = placement; devices = devices })
  relaid_is_lawful lawful placed blocks = record {
    sizes = lawful.sizes;
    tree = record { sound = subst (λ (heads : Table numbers Header). AreSound (get heads) image.names) (sym heads_alike) lawful.tree.sound; counted = heads_alike ∙ lawful.tree.counted };
    placed = placed;
    blocks = blocks;
  }

-- ---- one block more or fewer

-- what is found at a key, where one key has come to have a value
found_at : {K X : Type 0} (R : Order K) (key other : K) (value there : X) (slot : Option X) → cond (eq_by_cmp R.compare other key) (Some value) slot ≡ Some there → ((other ≡ key) × (there ≡ value)) ⊎ (slot ≡ Some there)
found_at {X = X} R key other value there slot is = at (R.compare other key) refl is
  where
    at : (o : Ordering) → R.compare other key ≡ o → cond (is_eq o) (Some value) slot ≡ Some there → ((other ≡ key) × (there ≡ value)) ⊎ (slot ≡ Some there)
    at Less tie is = inr is
    at Equal tie is = let same : there ≡ value = cc in inl (R.exact other key tie, same)
    at Greater tie is = inr is

-- each block of the one lies in the other, at the same place
abbrev pub IsPart : (part whole : Placement) → Type 0
IsPart part whole = (block : ℕ × ℕ) (place : Place) → get part block ≡ Some place → get whole block ≡ Some place

retained_part : (keeps : ℕ × ℕ → Bool) (placement : Placement) → IsPart (retain keeps placement) placement
retained_part keeps placement block place is = by (keeps block) (sym (get-retain keeps placement block) ∙ is)
  where
    by : (b : Bool) → cond b (get placement block) None ≡ Some place → get placement block ≡ Some place
    by true is = is
    by false is = cc

pub less_part : (runs : List BlockRun) (placement : Placement) → IsPart (less runs placement) placement
less_part runs placement = retained_part _ placement

pub cut_part : (heads : Table numbers Header) (placement : Placement) → IsPart (cut heads placement) placement
cut_part heads placement = retained_part (is_block heads) placement

-- less some runs, and then cut, or cut alone
pub cut_less_part : (heads : Table numbers Header) (runs : List BlockRun) (placement : Placement) → IsPart (cut heads (less runs placement)) (cut heads placement)
cut_less_part heads runs placement block place is =
    let (kept, there) = from_cut heads (less runs placement) block place is in
    get-retain (is_block heads) placement block ∙ ap (λ b. cond b (get placement block) None) kept ∙ less_part runs placement block place there

pub unmapped_part : (placement : Placement) (block : ℕ × ℕ) → IsPart (changed placement block None) placement
unmapped_part placement block other place is = by (eq_by_cmp (pairs numbers numbers).compare other block) (sym (get-changed placement block None other) ∙ is)
  where
    by : (b : Bool) → cond b None (get placement other) ≡ Some place → get placement other ≡ Some place
    by true is = cc
    by false is = is

-- where a block lies, once one block has a place
mapped_at : (placement : Placement) (block other : ℕ × ℕ) (place there : Place) → get (changed placement block (Some place)) other ≡ Some there → ((other ≡ block) × (there ≡ place)) ⊎ (get placement other ≡ Some there)
mapped_at placement block other place there is = found_at (pairs numbers numbers) block other place there (get placement other) (sym (get-changed placement block (Some place) other) ∙ is)

-- ---- free places

pub free_has_none : (placement : Placement) (place : Place) → is_free placement place ≡ true → (block : ℕ × ℕ) → get placement block ≡ Some place → ⊥
free_has_none placement place free block there = both_ways (is_free placement place) (used_from placement place block there) free

pub free_without : (placement : Placement) (place : Place) → ((block : ℕ × ℕ) → get placement block ≡ Some place → ⊥) → is_free placement place ≡ true
free_without placement place none = ⊎_elim (λ free. free) (λ used. let (block, there) = used_by placement place used in absurd (none block there)) (cases_Bool (is_free placement place))

pub free_in_part : (part whole : Placement) → IsPart part whole → (place : Place) → is_free whole place ≡ true → is_free part place ≡ true
free_in_part part whole within place free = free_without part place (λ block there. free_has_none whole place free block (within block place there))

-- another place stays free
pub still_free : (placement : Placement) (block : ℕ × ℕ) (place other : Place) → place ≢ other → is_free placement other ≡ true → is_free (changed placement block (Some place)) other ≡ true
still_free placement block place other differs free =
    free_without (changed placement block (Some place)) other
    (λ found there. ⊎_elim (λ here. differs (sym here.1)) (λ before. free_has_none placement other free found before) (mapped_at placement block found place other there))

-- ---- placements and devices

module _ (sizes : TierSizes) (heads : Table numbers Header) (placement : Placement) (placed : IsPlacement sizes (get heads) placement) where
  pub part_is_placement : (part : Placement) → IsPart part placement → IsPlacement sizes (get heads) part
  part_is_placement part within = record {
    laid = record {
      apart = λ block other place is also. placed.laid.apart block other place (within block place is) (within other place also);
      in_tier = λ block place is. placed.laid.in_tier block place (within block place is);
    };
    of_files = λ number block place is. placed.of_files number block place (within (number, block) place is);
  }

  -- a block of a file comes to lie at a free place
  module _ (block : ℕ × ℕ) (place : Place) (inside : place.place < tier_size sizes place.tier) (free : is_free placement place ≡ true) (of_file : is_block heads block ≡ true) where
    abbrev after : Placement
    after = changed placement block (Some place)

    apart_after : (one other : ℕ × ℕ) (there : Place) → get after one ≡ Some there → get after other ≡ Some there → one ≡ other
    apart_after one other there is also =
        ⊎_elim
        (λ here. ⊎_elim (λ too. here.0 ∙ sym too.0) (λ before. absurd (taken other here.1 before)) (mapped_at placement block other place there also))
        (λ before. ⊎_elim (λ here. absurd (taken one here.1 before)) (λ too. placed.laid.apart one other there before too) (mapped_at placement block other place there also))
        (mapped_at placement block one place there is)
      where
        taken : (found : ℕ × ℕ) → there ≡ place → get placement found ≡ Some there → ⊥
        taken found same before = free_has_none placement place free found (before ∙ ap Some same)

    in_tier_after : (one : ℕ × ℕ) (there : Place) → get after one ≡ Some there → there.place < tier_size sizes there.tier
    in_tier_after one there is =
        ⊎_elim (λ here. subst (λ (p : Place). p.place < tier_size sizes p.tier) (sym here.1) inside) (λ before. placed.laid.in_tier one there before) (mapped_at placement block one place there is)

    of_files_after : (number one : ℕ) (there : Place) → get after (number, one) ≡ Some there → IsBlock (get heads) number one
    of_files_after number one there is =
        ⊎_elim
        (λ here. subst (λ (b : ℕ × ℕ). IsBlock (get heads) b.0 b.1) (sym here.0) (block_of_file heads block.0 block.1 of_file))
        (λ before. placed.of_files number one there before)
        (mapped_at placement block (number, one) place there is)

    pub mapped_is_placement : IsPlacement sizes (get heads) (changed placement block (Some place))
    mapped_is_placement = record { laid = record { apart = apart_after; in_tier = in_tier_after }; of_files = of_files_after }

-- a whole block is written at a place of its tier
pub written_are_blocks : (sizes : TierSizes) (devices : Devices) → AreBlocks sizes devices → (place : Place) (bytes : List ℕ) → place.place < tier_size sizes place.tier → length bytes ≡ block_size
    → AreBlocks sizes (insert devices (place.tier, place.place) bytes)
written_are_blocks sizes devices are place bytes inside whole = record {
  in_tier = λ tier at found is.
      ⊎_elim (λ here. subst (λ (k : ℕ × ℕ). k.1 < tier_size sizes k.0) (sym here.0) inside) (λ before. are.in_tier tier at found before) (there (tier, at) found is);
  full = λ tier at found is. ⊎_elim (λ here. ap length here.1 ∙ whole) (λ before. are.full tier at found before) (there (tier, at) found is);
}
  where
    there : (key : ℕ × ℕ) (found : List ℕ) → get (insert devices (place.tier, place.place) bytes) key ≡ Some found → ((key ≡ (place.tier, place.place)) × (found ≡ bytes)) ⊎ (get devices key ≡ Some found)
    there key found is = found_at (pairs numbers numbers) (place.tier, place.place) key bytes found (get devices key) (sym (get-insert devices (place.tier, place.place) bytes key) ∙ is)

-- ---- images

module _ (image : DeviceImage) (lawful : IsLawful image) where
  pub part_is_lawful : (part : Placement) → IsPart part image.placement → IsLawful (record image { placement = part })
  part_is_lawful part within = relaid_is_lawful image part image.devices lawful (part_is_placement image.sizes image.heads image.placement lawful.placed part within) lawful.blocks

  pub unmapped_is_lawful : (block : ℕ × ℕ) → IsLawful (record image { placement = changed image.placement block None })
  unmapped_is_lawful block = part_is_lawful (changed image.placement block None) (unmapped_part image.placement block)

  pub less_is_lawful : (runs : List BlockRun) → IsLawful (record image { placement = less runs image.placement })
  less_is_lawful runs = part_is_lawful (less runs image.placement) (less_part runs image.placement)

  pub written_is_lawful : (place : Place) (bytes : List ℕ) → place.place < tier_size image.sizes place.tier → length bytes ≡ block_size → IsLawful (record image { devices = insert image.devices (place.tier, place.place) bytes })
  written_is_lawful place bytes inside whole =
      relaid_is_lawful image image.placement (insert image.devices (place.tier, place.place) bytes) lawful lawful.placed (written_are_blocks image.sizes image.devices lawful.blocks place bytes inside whole)

  pub mapped_is_lawful : (block : ℕ × ℕ) (place : Place) → place.place < tier_size image.sizes place.tier → is_free image.placement place ≡ true → is_block image.heads block ≡ true
      → IsLawful (record image { placement = changed image.placement block (Some place) })
  mapped_is_lawful block place inside free of_file =
      relaid_is_lawful image (changed image.placement block (Some place)) image.devices lawful (mapped_is_placement image.sizes image.heads image.placement lawful.placed block place inside free of_file) lawful.blocks

-- ---- rows

module _ {A : Type 0} where
  -- the image with a row's block at its place, with its bytes
  abbrev with_row : DeviceImage → BlockRow A → DeviceImage
  with_row image row = record image {
    placement = changed image.placement (row.number, row.block) (Some row.place);
    devices = insert image.devices (row.place.tier, row.place.place) row.bytes.items;
  }

  pub row_is_lawful : (image : DeviceImage) (row : BlockRow A) → IsLawful image → FitsRow image row
      → IsLawful (record image { placement = changed image.placement (row.number, row.block) (Some row.place); devices = insert image.devices (row.place.tier, row.place.place) row.bytes.items })
  row_is_lawful image row lawful fits =
      let long : length row.bytes.items ≡ block_size = omega (arith, row.bytes.ok.0, fits.whole) in
      relaid_is_lawful image (with_row image row).placement (with_row image row).devices lawful
      (mapped_is_placement image.sizes image.heads image.placement lawful.placed (row.number, row.block) row.place fits.in_tier fits.free fits.of_file)
      (written_are_blocks image.sizes image.devices lawful.blocks row.place row.bytes.items fits.in_tier long)

  -- the later rows fit once the first one is made
  later_fit : (image : DeviceImage) (row : BlockRow A) (rows : List (BlockRow A)) → Fit image (row ∷ rows) → Fit (with_row image row) rows
  later_fit image row rows fit = record {
    each = λ k d below.
        let this = fit.each (suc k) d (omega (arith, below)) in
        let other = fit.apart 0 (suc k) d (omega arith) (omega (arith, below)) in
        record {
          in_tier = this.in_tier;
          free = still_free image.placement (row.number, row.block) row.place (get_or rows k d).place other this.free;
          of_file = this.of_file;
          whole = this.whole;
        };
    apart = λ i j d less below. fit.apart (suc i) (suc j) d (omega (arith, less)) (omega (arith, below));
  }

  pub filled_is_lawful : (rows : List (BlockRow A)) (image : DeviceImage) → IsLawful image → Fit image rows → IsLawful (record image { placement = mapped_by rows image.placement; devices = written_by rows image.devices })
  unfolding mapped_by written_by
  filled_is_lawful [] image lawful fit = lawful
  filled_is_lawful (row ∷ rows) image lawful fit = filled_is_lawful rows (with_row image row) (row_is_lawful image row lawful (fit.each 0 row (omega arith))) (later_fit image row rows fit)

  -- rows that fit an image fit it with fewer blocks
  pub fit_part : (image : DeviceImage) (part : Placement) → IsPart part image.placement → (rows : List (BlockRow A)) → Fit image rows → Fit (record image { placement = part }) rows
  fit_part image part within rows fit = record {
    each = λ k d below.
        let this = fit.each k d below in
        record {
          in_tier = this.in_tier;
          free = free_in_part part image.placement within (get_or rows k d).place this.free;
          of_file = this.of_file;
          whole = this.whole;
        };
    apart = fit.apart;
  }

-- ---- a net and a fill

-- the image of the net, with its blocks where they were
abbrev pub still_placed : {A : Type 0} → Net A (List ℕ) → DeviceImage → DeviceImage
still_placed net image = record (after_net net image) { placement = image.placement }

module _ {A : Type 0} (net : Net A (List ℕ)) (fill : Fill A) (image : DeviceImage) where
  -- the image of the net, of which the fill's rows aren't made yet
  abbrev pub emptied : DeviceImage
  emptied = record (after_net net image) { placement = cut (reheaded image.heads net.nodes.items) (less fill.zero.items image.placement) }

  pub emptied_is_lawful : IsLawful (after_net net image) → IsLawful emptied
  emptied_is_lawful lawful = part_is_lawful (after_net net image) lawful emptied.placement (cut_less_part (reheaded image.heads net.nodes.items) fill.zero.items image.placement)

  pub can_apply : IsLawful (after_net net image) → Fit emptied fill.rows.items → CanApply net fill image
  can_apply lawful fit = record {
    lawful = filled_is_lawful fill.rows.items emptied (emptied_is_lawful lawful) fit;
    in_tier = λ k d below. (fit.each k d below).in_tier;
    whole = λ k d below. (fit.each k d below).whole;
  }

  -- the same where the rows' places are free in the image before
  pub can_apply_free : IsLawful (after_net net image) → Fit (still_placed net image) fill.rows.items → CanApply net fill image
  can_apply_free lawful fit = can_apply lawful (fit_part (still_placed net image) emptied.placement before fill.rows.items fit)
    where
      before : IsPart emptied.placement image.placement
      before block place is = less_part fill.zero.items image.placement block place (cut_part (reheaded image.heads net.nodes.items) (less fill.zero.items image.placement) block place is)
