use Rattle.std.proofs.Common.{◌≡◌, ◌∷◌, length, sym, ap, subst, arith}
use Rattle.std.specs.declared.ops.Bound.TheVariants.{Excluded}
use Rattle.kfs_model.specs.Device.ShownTree.{shown_tree}
use Rattle.kfs_image.specs.Encode.Runs.{run_extent, extents_from}
use Rattle.kfs_image.proofs.EncodeLemmas.RunExtents.{all_extents}
use Rattle.kfs_image.proofs.EncodeLemmas.Spelled.{counted_next, counted_all}
use Rattle.kfs_image.proofs.encode.extents.count_extents.Goals as goal

pub loop-extent-init : goal.loop-extent-init
loop-extent-init g c = omega (arith, c.none-rows.ensures, ap length (all_extents c.args.image.now))

pub loop-extent-smaller : goal.loop-extent-smaller
loop-extent-smaller g c = omega (arith, ap length c.in-Some.ensures.first, ap (λ block. length (extents_from c.args.image.now (Excluded block))) c.last.ensures)

pub loop-extent-preserved : goal.loop-extent-preserved
loop-extent-preserved g c =
    let image = c.args.image.now in
    let row = run_extent (shown_tree image) c.in-Some.extent in
    let left = extents_from image c.loop-extent.start in
    counted_next c.loop-extent.rows.count _ _ row left (extents_from image (Excluded c.last.result))
    (subst (λ block. left ≡ row ∷ extents_from image (Excluded block)) (sym c.last.ensures) c.in-Some.ensures.first) c.in_ok-rows.ensures c.loop-extent.invariant

pub returns : goal.returns
returns g c = counted_all c.loop-extent.rows.count _ (extents_from c.args.image.now c.loop-extent.start) c.in_default.ensures.none c.loop-extent.invariant
