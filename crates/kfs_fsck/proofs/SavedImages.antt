-- A lawful image as bytes, and read again: the rows break no rule and show the same.
use Rattle.std.proofs.Common.{◌≡◌, ℕ, ◌+◌, ◌<◌, ◌≤◌, ◌^◌, List, [], ◌∷◌, map, Option, Some, None, refl, sym, ap, subst, ◌∙◌, arith}
use Rattle.std.specs.List.{AllByRecursion}
use Rattle.kfs_model.specs.Table.{numbers, pairs}
use Rattle.kfs_model.specs.Placement.{AreTierSizes}
use Rattle.kfs_model.specs.Device.ShownTree.{DeviceImage, IsLawful, shown_tree}
use Rattle.kfs_model.specs.Device.RawImage.{ExtentRow, RawImage, IsSpelled, placement_of, image_of, table_of}
use Rattle.kfs_model.specs.Device.Rules.{Test, rules}
use Rattle.kfs_model.specs.Device.Finding.{Finding, least_failed, finding_from, finding_of, IsWellFormed}
use Rattle.kfs_model.specs.Device.Listed.{AreRowsOfImage, raw_node, name_row, rows_of}
use Rattle.kfs_model.specs.Device.Spelling.{IsRawImage}
use Rattle.kfs_model.specs.Device.Canonical.{canonical_rows, joined_extents}
use Rattle.kfs_model.proofs.CanonicalLemmas.FittingRows.{fitting_rows}
use Rattle.kfs_model.proofs.DeviceLemmas.ImageAnswers.{raw_image_spelled}
use Rattle.kfs_model.proofs.DeviceLemmas.LaidOut.{extents_placed, blocks_written}
use Rattle.kfs_model.proofs.DeviceLemmas.ListedTree.{rows_are}
use Rattle.kfs_model.proofs.DeviceLemmas.RulesHold.{IsLaid, all_laid}
use Rattle.kfs_model.proofs.DeviceLemmas.SoundImage.{heads_counted, tree_sound}
use Rattle.kfs_shape.proofs.SharedPlaces.{AreSmall}
use Rattle.kfs_fsck.specs.SavedImages.{IsReadAgain}
use Rattle.kfs_fsck.proofs.Cleaned.{cleaned, cleaned_tree, cleaned_lawful, cleaned_extents}
use Rattle.kfs_fsck.proofs.JoinedPlaces.{IsFull, same_places, same_blocks}
use Rattle.kfs_fsck.proofs.JoinedRules.{joined_8, joined_9, joined_10}

-- ---- no rule is broken

abbrev Rules : Type 0
Rules = List (ℕ × (RawImage → List Test))

abbrev NoneFails : RawImage → Rules → Type 0
NoneFails raw es = AllByRecursion (λ rule. least_failed (rule.1 raw) ≡ None) es

none_fails : (raw : RawImage) (es : Rules) → finding_from raw es ≡ None → NoneFails raw es
none_fails raw [] none = tt
none_fails raw (rule ∷ es) none = at (least_failed (rule.1 raw)) refl (none_fails raw es) none
  where
    at : (o : Option ℕ) → least_failed (rule.1 raw) ≡ o → (finding_from raw es ≡ None → NoneFails raw es) → elim o as (λ _. Option Finding) [ None ↦ finding_from raw es | Some number ↦ Some (record { rule = rule.0; number = number }) ] ≡ None → NoneFails raw (rule ∷ es)
    at None is behind rest = (is, behind rest)
    at (Some number) is behind rest = cc

nothing_found : (raw : RawImage) (es : Rules) → NoneFails raw es → finding_from raw es ≡ None
nothing_found raw [] none = refl
nothing_found raw (rule ∷ es) none =
    ap (λ (o : Option ℕ). elim o as (λ _. Option Finding) [ None ↦ finding_from raw es | Some number ↦ Some (record { rule = rule.0; number = number }) ]) none.0
    ∙ nothing_found raw es none.1

module _ (raw : RawImage) (well_formed : IsWellFormed raw) where
  all_full : (rows : List ExtentRow) → AllByRecursion (IsLaid raw well_formed) rows → AllByRecursion IsFull rows
  all_full [] all = tt
  all_full (row ∷ rows) all = (all.0.full, all_full rows all.1)

  extents_full : AllByRecursion IsFull raw.extents
  extents_full = all_full raw.extents (all_laid raw well_formed)

-- ---- the rows of a lawful image

module _ (image : DeviceImage) (lawful : IsLawful image) where
  abbrev clean : DeviceImage
  clean = record image { devices = cleaned image lawful }

  -- the rows with one extent for each block
  abbrev single : RawImage
  single = rows_of clean

  are : AreRowsOfImage clean single
  are = rows_are clean (cleaned_lawful image lawful)

  -- and with extents as long as can be
  abbrev joined : RawImage
  joined = record single { extents = joined_extents single.extents }

  abbrev new : RawImage
  new = canonical_rows image.sizes (shown_tree image) image.placement

  new_is : new ≡ joined
  new_is = λ i. record {
    version = 2;
    sizes = image.sizes;
    nodes = map raw_node (lawful.tree.counted i).entries;
    names = map name_row image.names.entries;
    extents = joined_extents (sym (cleaned_extents image lawful) i);
  }

  small : AreSmall single.sizes
  small = let first = lawful.sizes.0 in let second = lawful.sizes.1 in let third = lawful.sizes.2 in (omega (arith, first), omega (arith, second), omega (arith, third))

  joined_well_formed : IsWellFormed joined
  unfolding finding_of
  joined_well_formed =
      let from_1 = none_fails single rules.entries are.well_formed in
      let from_4 = from_1.1.1.1 in
      let from_8 = from_4.1.1.1.1 in
      let eight = from_8.0 in
      let nine = from_8.1.0 in
      let ten = from_8.1.1.0 in
      nothing_found joined rules.entries
      (from_1.0, (from_1.1.0, (from_1.1.1.0, (from_4.0, (from_4.1.0, (from_4.1.1.0, (from_4.1.1.1.0, (joined_8 single small eight nine ten, (joined_9 single small eight nine ten, (joined_10 single small eight nine ten, tt))))))))))

  full : AllByRecursion IsFull single.extents
  full = extents_full single are.well_formed

  shows_same : image_of joined ≡ image_of single
  shows_same = λ i. record (image_of single) {
    placement = table_of (pairs numbers numbers) (same_places single.extents full i);
    devices = table_of (pairs numbers numbers) (same_blocks single.extents full i);
  }

  pub read_again : IsReadAgain image
  read_again = record {
    rows = new;
    spelled = (fitting_rows image lawful, refl);
    version = refl;
    well_formed = subst IsWellFormed (sym new_is) joined_well_formed;
    sizes = refl;
    tree = ap (λ (r : RawImage). shown_tree (image_of r)) new_is ∙ ap shown_tree shows_same ∙ are.tree ∙ cleaned_tree image lawful;
    placement = ap placement_of new_is ∙ ap (λ (i : DeviceImage). i.placement) shows_same ∙ are.placement;
  }

-- ---- the image of rows that were read

module _ (raw : RawImage) (readable : IsRawImage raw) (well_formed : IsWellFormed raw) where
  spelled : IsSpelled raw
  spelled = raw_image_spelled raw readable

  pub lawful_image : IsLawful (image_of raw)
  lawful_image = record {
    sizes = spelled.sizes;
    tree = record { sound = tree_sound raw well_formed spelled; counted = heads_counted raw well_formed };
    placed = extents_placed raw well_formed;
    blocks = blocks_written raw well_formed;
  }
