use Rattle.std.proofs.Common.{sym, ◌∙◌}
use Rattle.kfs_model.specs.Tree.{name_order}
use Rattle.kfs_maps.proofs.ChunksLemmas.Tables.{get-table}
use Rattle.kfs_image_nodes.proofs.rows.NodeTables.target_near.Goals as goal

pub returns : goal.returns
returns g c = c.copied.ensures ∙ c.get_near.ensures ∙ sym (get-table name_order c.args.self.now.names c.args.key.now)
