use Rattle.std.proofs.Common.{sym, ◌∙◌}
use Rattle.kfs_maps.specs.Chunks.Tables.{table}
use Rattle.kfs_maps.proofs.ChunksLemmas.Tables.{get-table}
use Rattle.kfs_image_nodes.specs.Indexes.{by_node}
use Rattle.kfs_image_nodes.proofs.NameEdits.{read_seen}
use Rattle.kfs_image_nodes.proofs.tallies.Tallies.way_count.Goals as goal

pub returns : goal.returns
returns g c =
    c.get_or.ensures
    ∙ read_seen (table by_node c.args.uplinks.now) c.args.self.now.uplinks.latest c.args.way.now c.copied.result (c.copied.ensures ∙ c.get_near.ensures ∙ sym (get-table by_node c.args.uplinks.now c.args.way.now))
