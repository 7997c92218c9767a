use Rattle.std.proofs.Common.{◌≡◌, subst}
use Rattle.kfs_maps.specs.Chunks.Tables.{table_after}
use Rattle.kfs_image.specs.Blocks.Fill.{placement_after}
use Rattle.kfs_image.proofs.BlocksLemmas.FilledBlocks.{can_change, changed_is}
use Rattle.kfs_image.proofs.blocks.blocks.FileBlocks.moved_edits.Goals as goal

pub returns-clause-can : goal.returns-clause-can
returns-clause-can g c =
    let old = c.args.self.now in
    let places = c.in_ok-places.places.items in
    let placed = subst (λ rows. table_after old.placement places ≡ placement_after c.args.released.now rows old.placement) c.as_slice.ensures.value c.in_ok-places.ensures.placed in
    can_change c.args.released.now c.args.rows.items old places c.in_ok-written.written.items placed c.in_ok-written.ensures c.in_ok-places.ensures.ascend c.requires

pub returns-clause-fill : goal.returns-clause-fill
returns-clause-fill g c =
    let old = c.args.self.now in
    let places = c.in_ok-places.places.items in
    let placed = subst (λ rows. table_after old.placement places ≡ placement_after c.args.released.now rows old.placement) c.as_slice.ensures.value c.in_ok-places.ensures.placed in
    changed_is c.args.released.now c.args.rows.items old places c.in_ok-written.written.items placed c.in_ok-written.ensures
