use Rattle.std.proofs.Common.{◌≡◌, ◌++◌, map, sym, ap, subst}
use Rattle.std.specs.declared.cmp.Ordering.TheVariants.{Less}
use Rattle.kfs_model.specs.Table.{pairs, numbers}
use Rattle.kfs_maps.specs.Chunks.Edits.{KeysAscend}
use Rattle.kfs_maps.proofs.ChunksLemmas.InOrder.{none_ascends, one_made, all_made}
use Rattle.kfs_image.proofs.TierLemmas.TierLists.{rest_at}
use Rattle.kfs_image.specs.Blocks.Fill.{row_edit}
use Rattle.kfs_image.specs.Blocks.Moves.{BlockEdit}
use Rattle.kfs_image.proofs.blocks.fill.rows_in_order.Goals as goal

pub loop-row-init : goal.loop-row-init
loop-row-init g c =
    let none = c.in_ok-edits.ensures.items in
    record {
      made = ap (λ made. made ++ map row_edit c.args.rows.now) none;
      ascend = subst (KeysAscend (pairs numbers numbers).compare) (sym none) (none_ascends (λ (x y : BlockEdit). (pairs numbers numbers).compare x.key y.key ≡ Less));
    }

pub loop-row-preserved : goal.loop-row-preserved
loop-row-preserved g c =
    let rows = c.args.rows.now in
    let i = c.loop-row.row-index in
    let row = c.row-item.result in
    record {
      made = one_made row_edit rows i row c.loop-row.edits.items c.push_above.new.edits.items _ (rest_at rows i row c.loop-row-test.true c.row-item.is) (c.in_ok-push_above.ensures.added c.if-not-branch.false) c.loop-row.invariant.made;
      ascend = c.push_above.ensures.ascend;
    }

pub returns : goal.returns
returns g c =
    record {
      rows = all_made row_edit c.args.rows.now c.loop-row.row-index c.loop-row.edits.items _ c.loop-row-test.false c.loop-row.invariant.made;
      ascend = c.loop-row.invariant.ascend;
    }
