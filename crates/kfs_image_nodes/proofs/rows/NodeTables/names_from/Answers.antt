use Rattle.std.proofs.Common.{sym, subst, Bor}
use Rattle.std.specs.Range.Bound.{bound_map}
use Rattle.kfs_model.specs.Tree.{name_order}
use Rattle.kfs_maps.specs.Chunks.Starts.{IsNextRun}
use Rattle.kfs_maps.proofs.ChunksLemmas.Tables.{entries-table}
use Rattle.kfs_image_nodes.proofs.rows.NodeTables.names_from.Goals as goal

pub returns : goal.returns
returns g c =
    let start = bound_map (λ (x : Bor _). x.now) c.args.start in
    subst (λ es. IsNextRun name_order.compare start es c.run_from.result.now) (sym (entries-table name_order c.args.self.now.names c.run_from.ensures.sorted)) c.run_from.ensures.next
