-- An image once its nodes, names and blocks are changed together, by edits of the blocks that may be those of a fill.
use Rattle.std.proofs.Common.{◌≡◌, ℕ, List, Ok, Err, sym, ap, subst, ◌∙◌}
use Rattle.std.specs.Prelude.{◌<◌, All, OnOk, OnErr, vec_len}
use Rattle.std.specs.declared.result.Result.{Result}
use Rattle.kfs_types.specs.declared.plan.NameRow.{NameRow}
use Rattle.kfs_types.specs.declared.plan.NodeRow.{NodeRow}
use Rattle.kfs_model.specs.Limits.{block_size}
use Rattle.kfs_model.specs.Placement.{IsLaid, Placement, tier_size}
use Rattle.kfs_model.specs.Device.ShownTree.{DeviceImage, IsLawful}
use Rattle.kfs_image.specs.declared.blocks.fill.BlockRow.{BlockRow}
use Rattle.kfs_image.specs.declared.blocks.fill.BlockRun.{BlockRun}
use Rattle.kfs_image.specs.declared.blocks.fill.BlockEdits.{BlockEdits}
use Rattle.kfs_image.specs.Blocks.Blocks.{BlocksShown, CanChange, changed}
use Rattle.kfs_image.specs.Blocks.Moves.{BlockEdit}
use Rattle.kfs_image.specs.Blocks.Fill.{CanFill, filled, less, mapped_by, written_by}
use Rattle.kfs_image_nodes.specs.declared.net.Net.{Net}
use Rattle.kfs_image_nodes.specs.Contents.{Contents}
use Rattle.kfs_image_nodes.specs.Change.{after_rows, renamed, reheaded}
use Rattle.kfs_image_nodes.specs.Rows.{FitPages}
use Rattle.kfs_image.specs.declared.net.Fill.{Fill}
use Rattle.kfs_image.specs.Released.{AreReleased}
use Rattle.kfs_image.specs.Image.{blocks_of, changed_image, contents_of, image_with}
use Rattle.kfs_image.specs.Net.{CanApply, applied}
use Rattle.kfs_image.proofs.ShownTrees.{lawful_fits}

-- Runs and rows of blocks, as a change finds them: the runs by lists that are those of the net and the fill.
pub record AreOf {A : Type 0} (net : Net A (List ℕ)) (fill : Fill A) (nodes : List NodeRow) (zero found released : List BlockRun) (rows : List (BlockRow A)) : Type 0 where
  pub nodes_are : nodes ≡ net.nodes.items
  pub zero_are : zero ≡ fill.zero.items
  pub released_are : released ≡ found
  pub rows_are : rows ≡ fill.rows.items
  pub found_are : AreReleased nodes zero found

module _ {A : Type 0} {net : Net A (List ℕ)} {fill : Fill A} {nodes : List NodeRow} {zero found released : List BlockRun} {rows : List (BlockRow A)} (of : AreOf net fill nodes zero found released rows) where
  are_released : AreReleased net.nodes.items fill.zero.items released
  are_released =
      subst (AreReleased net.nodes.items fill.zero.items) (sym of.released_are) (subst (λ runs. AreReleased net.nodes.items runs found) of.zero_are (subst (λ rows. AreReleased rows zero found) of.nodes_are of.found_are))

  module _ (contents : Contents) (blocks : BlocksShown) (lawful : IsLawful (image_with contents blocks)) where
    abbrev image : DeviceImage
    image = image_with contents blocks

    -- the blocks that the runs and rows leave are those of the net and the fill
    left : mapped_by rows (less released blocks.placement) ≡ (applied net fill image).placement
    left = ap (λ rs. mapped_by rs (less released blocks.placement)) of.rows_are ∙ ap (mapped_by fill.rows.items) (are_released image lawful)

    fill_fits : CanApply net fill image → CanFill blocks released rows
    fill_fits can = record {
      laid = subst (λ (placement : Placement). IsLaid blocks.sizes placement) (sym left) can.lawful.placed.laid;
      in_tier = subst (λ rs. All (λ (r : BlockRow A). r.place.place < tier_size blocks.sizes r.place.tier) rs) (sym of.rows_are) can.in_tier;
      whole = subst (λ rs. All (λ (r : BlockRow A). vec_len r.bytes ≡ block_size) rs) (sym of.rows_are) can.whole;
    }

    pub can_fill : (now : DeviceImage) → image ≡ now → CanApply net fill now → CanFill blocks released rows
    can_fill now is can = fill_fits (subst (CanApply net fill) (sym is) can)

    -- nodes, names and blocks together are those of the image after
    together : image_with (record { heads = reheaded contents.heads net.nodes.items; names = renamed contents.names net.names.items }) (filled released rows blocks) ≡ applied net fill image
    together = λ i. record {
      sizes = blocks.sizes;
      heads = reheaded contents.heads net.nodes.items;
      names = renamed contents.names net.names.items;
      placement = left i;
      devices = written_by (of.rows_are i) blocks.devices;
    }

    -- so are those of edits that do what the fill does
    pub applied_is : (names_now : List (NameRow (List ℕ))) (nodes_now : List NodeRow) → names_now ≡ net.names.items → nodes_now ≡ net.nodes.items
        → (edits : BlockEdits A) → changed edits.places.items edits.written.items blocks ≡ filled released rows blocks
        → (now : DeviceImage) → image ≡ now
        → changed_image names_now nodes_now edits now ≡ applied net fill now
    applied_is names_now nodes_now names_are nodes_same edits does now is =
        subst (λ (now : DeviceImage). changed_image names_now nodes_now edits now ≡ applied net fill now) is
        ((λ i. image_with (record { heads = reheaded contents.heads (nodes_same i); names = renamed contents.names (names_are i) }) (does i)) ∙ together)

-- Nodes and names with blocks, as a change finds them in an image, and as it leaves them.
module _ {A : Type 0} (names : List (NameRow (List ℕ))) (nodes : List NodeRow) (edits : BlockEdits A) (places : List BlockEdit) (places_are : places ≡ edits.places.items)
    (now : DeviceImage) (contents : Contents) (blocks : BlocksShown) (contents_are : contents ≡ contents_of now) (blocks_are : blocks ≡ blocks_of now) where
  pub fits_before : IsLawful now → FitPages contents.heads contents.names
  fits_before lawful = subst (λ (it : Contents). FitPages it.heads it.names) (sym contents_are) (lawful_fits now lawful)

  pub fits_after : IsLawful (changed_image names nodes edits now) → FitPages (reheaded contents.heads nodes) (renamed contents.names names)
  fits_after lawful = subst (λ (it : Contents). FitPages (reheaded it.heads nodes) (renamed it.names names)) (sym contents_are) (lawful_fits (changed_image names nodes edits now) lawful)

  pub can_change : CanChange (blocks_of now) edits.places.items edits.written.items → CanChange blocks places edits.written.items
  can_change can = subst (λ (it : BlocksShown). CanChange it places edits.written.items) (sym blocks_are) (subst (λ it. CanChange (blocks_of now) it edits.written.items) (sym places_are) can)

  module _ {T E : Type 0} (r : Result T E) (new : Contents) (new_blocks : BlocksShown) where
    -- the change was made of both, or of neither
    pub changed_ok : (G : Type 0) → OnOk r (new ≡ after_rows contents names nodes) → OnOk r ((new_blocks ≡ changed places edits.written.items blocks) × G) → OnOk r (image_with new new_blocks ≡ changed_image names nodes edits now)
    changed_ok G = elim r as (λ r. OnOk r (new ≡ after_rows contents names nodes) → OnOk r ((new_blocks ≡ changed places edits.written.items blocks) × G) → OnOk r (image_with new new_blocks ≡ changed_image names nodes edits now)) [
      | Ok done ↦ λ made_so blocks_so.
          (λ i. image_with (made_so i) (blocks_so.0 i)) ∙ (λ i. image_with (after_rows (contents_are i) names nodes) (changed (places_are i) edits.written.items (blocks_are i)))
      | Err error ↦ λ made_so blocks_so. tt
    ]

    pub changed_err : (H : Type 0) → OnErr r (new ≡ contents) → OnErr r ((new_blocks ≡ blocks) × H) → OnErr r (image_with new new_blocks ≡ now)
    changed_err H = elim r as (λ r. OnErr r (new ≡ contents) → OnErr r ((new_blocks ≡ blocks) × H) → OnErr r (image_with new new_blocks ≡ now)) [
      | Ok done ↦ λ kept left_so. tt
      | Err error ↦ λ kept left_so. λ i. image_with ((kept ∙ contents_are) i) ((left_so.0 ∙ blocks_are) i)
    ]

    pub changed_lawful : (G H : Type 0) → IsLawful now → IsLawful (changed_image names nodes edits now)
        → OnOk r (new ≡ after_rows contents names nodes) → OnErr r (new ≡ contents) → OnOk r ((new_blocks ≡ changed places edits.written.items blocks) × G) → OnErr r ((new_blocks ≡ blocks) × H)
        → IsLawful (image_with new new_blocks)
    changed_lawful G H lawful lawful_after made_so kept blocks_so left_so = at r (changed_ok G made_so blocks_so) (changed_err H kept left_so)
      where
        at : (r : Result T E) → OnOk r (image_with new new_blocks ≡ changed_image names nodes edits now) → OnErr r (image_with new new_blocks ≡ now) → IsLawful (image_with new new_blocks)
        at (Ok done) is_after is_before = subst IsLawful (sym is_after) lawful_after
        at (Err error) is_after is_before = subst IsLawful (sym is_before) lawful
