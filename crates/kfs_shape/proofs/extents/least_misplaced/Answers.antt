use Rattle.std.proofs.Common.{◌+◌, None, map, ap, ◌∙◌}
use Rattle.std.specs.Option.{option_map}
use Rattle.kfs_model.specs.Device.RawImage.{heads_of}
use Rattle.kfs_model.specs.Device.Rules.{test, with_previous}
use Rattle.kfs_model.specs.Device.Finding.{least_failed}
use Rattle.kfs_shape.specs.Extents.{is_in_place}
use Rattle.kfs_shape.specs.Heads.{head_at}
use Rattle.kfs_shape.specs.Least.{before}
use Rattle.kfs_image.specs.Codec.RawImages.{extent_row_of, raw_of}
use Rattle.kfs_shape.proofs.Neighbours.{beside, neighbours_tell}
use Rattle.kfs_shape.proofs.Tests.{ordered_at, taken_in, rest_ordered}
use Rattle.kfs_shape.proofs.extents.least_misplaced.Goals as goal

pub loop-index-init : goal.loop-index-init
loop-index-init g c =
    let heads = heads_of (raw_of c.args.raw.now) in
    ap (λ rows. least_failed (map (λ e. test (beside heads e) e.1.number) (with_previous None (map extent_row_of rows)))) c.as_slice-rows.ensures.value
    ∙ neighbours_tell heads (map extent_row_of c.args.raw.now.extents.items)

pub loop-index-preserved : goal.loop-index-preserved
loop-index-preserved g c =
    let rows = c.as_slice-rows.result.now in
    let heads = heads_of (raw_of c.args.raw.now) in
    let row = c.index-rows-index.result in
    let holds =
    c.is_in_place-holds.ensures
    ∙ ap (λ o. is_in_place (head_at c.args.headers.now row.number) (option_map extent_row_of o, extent_row_of row)) c.previous.ensures
    ∙ ap (λ h. is_in_place h (option_map extent_row_of (before rows c.loop-index.index), extent_row_of row)) (c.requires row.number)
    in
    taken_in _ _ c.loop-index.least c.noted-least.result _ (rest_ordered extent_row_of (λ e. test (beside heads e) e.1.number) rows (c.loop-index.index + 1)) _ c.noted-least.ensures holds
    (ordered_at extent_row_of (λ e. test (beside heads e) e.1.number) rows c.loop-index.index row c.loop-index-test.true c.index-rows-index.is) c.loop-index.invariant
