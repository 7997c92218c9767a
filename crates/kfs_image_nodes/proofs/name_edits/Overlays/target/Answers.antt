use Rattle.std.proofs.Common.{sym, ◌∙◌}
use Rattle.kfs_model.specs.Tree.{name_order}
use Rattle.kfs_maps.specs.Chunks.Tables.{table}
use Rattle.kfs_maps.proofs.ChunksLemmas.Tables.{get-table}
use Rattle.kfs_image_nodes.proofs.NameEdits.{read_seen}
use Rattle.kfs_image_nodes.proofs.name_edits.Overlays.target.Goals as goal

pub returns : goal.returns
returns g c =
    c.get_or.ensures
    ∙ read_seen (table name_order c.args.names.now) c.args.self.now.names.latest c.args.key.now c.copied.result (c.copied.ensures ∙ c.get.ensures ∙ sym (get-table name_order c.args.names.now c.args.key.now))
