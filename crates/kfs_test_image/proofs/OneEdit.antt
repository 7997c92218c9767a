-- One edit of where a block lies, or of a block's bytes, leaves a lawful image lawful.
use Rattle.std.proofs.Common.{◌≡◌, ℕ, ◌<◌, true, [], ◌∷◌, Option, Some, None, option_map, arith}
use Rattle.std.specs.Prelude.{Vec, vec_len}
use Rattle.std.proofs.lemmas.List.Elements.{All-cons, All-nil}
use Rattle.kfs_model.specs.Limits.{block_size}
use Rattle.kfs_model.specs.Table.{changed}
use Rattle.kfs_model.specs.Placement.{Place, tier_size, is_free}
use Rattle.kfs_model.specs.Device.ShownTree.{DeviceImage, IsLawful}
use Rattle.kfs_image.specs.declared.edit.Edit.{Edit}
use Rattle.kfs_image.specs.declared.edit.Edit.TheVariants.{Map, Bytes}
use Rattle.kfs_image.specs.Image.{place_at}
use Rattle.kfs_image.specs.Edit.{CanEdit, WritesWholeBlocks, edited_all}
use Rattle.kfs_image.specs.Net.{is_block}
use Rattle.kfs_image.proofs.FilledImages.{mapped_is_lawful, unmapped_is_lawful, written_is_lawful}

module _ {A : Type 0} (image : DeviceImage) (lawful : IsLawful image) (number block : ℕ) where
  abbrev pub moved : Option (ℕ × ℕ) → Edit A
  moved pair = Map number block pair

  can_move : (pair : Option (ℕ × ℕ)) → IsLawful (record image { placement = changed image.placement (number, block) (option_map place_at pair) }) → CanEdit (moved pair ∷ []) image
  unfolding edited_all
  can_move pair after = record {
    lawful = after;
    whole = All-cons (WritesWholeBlocks image.sizes) (moved pair) [] tt (All-nil (WritesWholeBlocks {A = A} image.sizes));
  }

  pub can_lay : (place : Place) → place.place < tier_size image.sizes place.tier → is_free image.placement place ≡ true → is_block image.heads (number, block) ≡ true → CanEdit (moved (Some (place.tier, place.place)) ∷ []) image
  can_lay place inside free of_file = can_move (Some (place.tier, place.place)) (mapped_is_lawful image lawful (number, block) place inside free of_file)

  pub can_take_up : CanEdit (moved None ∷ []) image
  can_take_up = can_move None (unmapped_is_lawful image lawful (number, block))

module _ {A : Type 0} (image : DeviceImage) (lawful : IsLawful image) (tier place : ℕ) (bytes : Vec ℕ A) where
  pub can_write : place < tier_size image.sizes tier → vec_len bytes ≡ block_size → CanEdit (Bytes tier place bytes ∷ []) image
  unfolding edited_all
  can_write inside whole = record {
    lawful = written_is_lawful image lawful (record { tier = tier; place = place }) bytes.items inside (omega (arith, bytes.ok.0, whole));
    whole = All-cons (WritesWholeBlocks image.sizes) (Bytes tier place bytes) [] (inside, whole) (All-nil (WritesWholeBlocks {A = A} image.sizes));
  }
