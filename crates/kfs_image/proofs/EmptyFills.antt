-- A fill without a block leaves the image of the net alone.
use Rattle.std.proofs.Common.{◌≡◌, ℕ, ◌<◌, true, List, [], All, refl, sym, ap, subst, ◌∙◌, arith}
use Rattle.std.specs.Prelude.{vec_len}
use Rattle.kfs_model.specs.Limits.{block_size}
use Rattle.kfs_model.specs.Placement.{Placement, tier_size}
use Rattle.kfs_model.proofs.TableLaws.{same_table, get-retain}
use Rattle.kfs_model.specs.Device.ShownTree.{DeviceImage, IsLawful}
use Rattle.kfs_image.specs.declared.blocks.fill.BlockRow.{BlockRow}
use Rattle.kfs_image.specs.Blocks.Fill.{less, mapped_by, written_by}
use Rattle.kfs_image_nodes.specs.declared.net.Net.{Net}
use Rattle.kfs_image_nodes.specs.Change.{reheaded}
use Rattle.kfs_image.specs.declared.net.Fill.{Fill}
use Rattle.kfs_image.specs.Net.{CanApply, after_net, applied, cut}

less_nothing : (placement : Placement) → less [] placement ≡ placement
less_nothing placement = same_table _ _ (λ block. get-retain (λ block. true) placement block)

module _ {A : Type 0} (net : Net A (List ℕ)) (fill : Fill A) (rows : fill.rows.items ≡ []) (zero : fill.zero.items ≡ []) (image : DeviceImage) where
  placed_alone : (placement : Placement) → mapped_by {A = A} [] placement ≡ placement
  unfolding mapped_by
  placed_alone placement = refl

  written_alone : written_by {A = A} [] image.devices ≡ image.devices
  unfolding written_by
  written_alone = refl

  placement_is : (applied net fill image).placement ≡ (after_net net image).placement
  placement_is =
      let kept = cut (reheaded image.heads net.nodes.items) (less fill.zero.items image.placement) in
      ap (λ rs. mapped_by rs kept) rows
      ∙ placed_alone kept
      ∙ ap (λ runs. cut (reheaded image.heads net.nodes.items) (less runs image.placement)) zero
      ∙ ap (cut (reheaded image.heads net.nodes.items)) (less_nothing image.placement)

  devices_are : (applied net fill image).devices ≡ image.devices
  devices_are = ap (λ rs. written_by rs image.devices) rows ∙ written_alone

  pub net_alone : applied net fill image ≡ after_net net image
  net_alone = λ i. record (after_net net image) { placement = placement_is i; devices = devices_are i }

  pub can_apply_alone : IsLawful (after_net net image) → CanApply net fill image
  can_apply_alone lawful = record {
    lawful = subst IsLawful (sym net_alone) lawful;
    in_tier = subst (λ rs. All (λ (r : BlockRow A). r.place.place < tier_size image.sizes r.place.tier) rs) (sym rows) (λ k d below. absurd (omega (arith, below)));
    whole = subst (λ rs. All (λ (r : BlockRow A). vec_len r.bytes ≡ block_size) rs) (sym rows) (λ k d below. absurd (omega (arith, below)));
  }
