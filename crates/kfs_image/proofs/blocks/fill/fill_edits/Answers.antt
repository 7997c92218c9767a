use Rattle.std.proofs.Common.{◌≡◌, map, sym, ap, ◌∙◌, subst}
use Rattle.std.proofs.lemmas.List.{nil_from_length}
use Rattle.std.specs.Prelude.{IfOk, IfSome}
use Rattle.kfs_model.specs.Table.{pairs, numbers, get}
use Rattle.kfs_model.specs.Placement.{Placement}
use Rattle.kfs_maps.specs.Chunks.Tables.{table, table_after}
use Rattle.kfs_maps.proofs.ChunksLemmas.Overlays.{overlaid_none}
use Rattle.kfs_image.specs.Blocks.Fill.{less, mapped_by, row_edit}
use Rattle.kfs_image.specs.Blocks.Walks.{placed, seen}
use Rattle.kfs_image.proofs.BlocksLemmas.FilledBlocks.{edits_map, less_run, less_all, still_unmapped}
use Rattle.kfs_image.proofs.blocks.fill.fill_edits.Goals as goal

pub loop-run-init : goal.loop-run-init
loop-run-init g c =
    let nothing = overlaid_none (table (pairs numbers numbers) c.args.placement.now) c.new-overlay.result.latest.entries c.new-overlay.ensures in
    record {
      less = ap (less c.args.released.now) nothing;
      sees = λ block none. ap (λ (t : Placement). get t block) nothing ∙ none;
    }

pub unmap-requires : goal.unmap-requires
unmap-requires g c = c.loop-run.invariant.sees

pub loop-run-preserved : goal.loop-run-preserved
loop-run-preserved g c = record {
  less =
      less_run c.args.released.now c.loop-run.run-index _ (seen c.loop-run.overlay c.args.placement.now) (seen c.unmap.new.overlay c.args.placement.now) (less c.args.released.now (table (pairs numbers numbers) c.args.placement.now))
      c.loop-run-test.true c.in_ok-unmap.ensures c.loop-run.invariant.less;
  sees = λ block none. still_unmapped c.args.released.now c.loop-run.run-index _ (seen c.loop-run.overlay c.args.placement.now) (seen c.unmap.new.overlay c.args.placement.now) c.in_ok-unmap.ensures block (c.loop-run.invariant.sees block none);
}

-- nothing is laid over the placement, so the runs have no mapped block
pub returns-clause-placed : goal.returns-clause-placed
returns-clause-placed g c =
    let placement = placed c.args.placement.now in
    let rows = c.args.rows.now in
    let none = nil_from_length c.loop-run.overlay.latest.entries (c.is_empty.ensures.0 c.if-is_empty.true) in
    let nothing = overlaid_none placement c.loop-run.overlay.latest.entries none in
    let less_is : seen c.loop-run.overlay c.args.placement.now ≡ less c.args.released.now placement = less_all c.args.released.now c.loop-run.run-index (seen c.loop-run.overlay c.args.placement.now) _ c.loop-run-test.false c.loop-run.invariant.less in
    let made : c.in-Some.edits.items ≡ map row_edit rows = subst (λ made. IfSome made (λ edits. edits.items ≡ map row_edit rows)) c.in-Some.is c.in_ok-edits.ensures.rows in
    ap (table_after placement) made ∙ edits_map rows placement ∙ ap (mapped_by rows) (sym nothing ∙ less_is)

pub returns-2-clause-placed : goal.returns-2-clause-placed
returns-2-clause-placed g c =
    subst (λ (seen_now : Placement). IfOk c.edits_over.result (λ edits. table_after (placed c.args.placement.now) edits.items ≡ mapped_by c.args.rows.now seen_now))
    (less_all c.args.released.now c.loop-run.run-index (seen c.loop-run.overlay c.args.placement.now) _ c.loop-run-test.false c.loop-run.invariant.less) c.edits_over.ensures.placed
