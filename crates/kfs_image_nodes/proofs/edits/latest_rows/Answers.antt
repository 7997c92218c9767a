use Rattle.std.proofs.Common.{◌+◌, drop, sym, ap, ◌∙◌}
use Rattle.std.specs.Ordering.{nat_cmp, eq_by_cmp}
use Rattle.std.specs.BTreeMap.{get}
use Rattle.kfs_image_nodes.specs.NodeEdits.{left_by}
use Rattle.kfs_maps.specs.Chunks.Overlays.{said_or}
use Rattle.kfs_image_nodes.proofs.NodeEdits.{rows_left}
use Rattle.kfs_maps.proofs.ChunksLemmas.Overlays.{said_first}
use Rattle.kfs_image_nodes.proofs.edits.latest_rows.Goals as goal

pub loop-row-preserved : goal.loop-row-preserved
loop-row-preserved g c = λ q there.
    let nodes = c.args.nodes.now in
    let i = c.loop-row.row-index in
    ap (left_by (drop (i + 1) nodes) q)
    (ap (λ said. said_or said there) (c.in_ok-set.ensures q) ∙ said_first (eq_by_cmp nat_cmp q _) _ (get nat_cmp c.loop-row.overlay.latest q) there)
    ∙ ap (λ rows. left_by rows q (said_or (get nat_cmp c.loop-row.overlay.latest q) there)) (sym (rows_left nodes i _ c.loop-row-test.true))
    ∙ c.loop-row.invariant q there
