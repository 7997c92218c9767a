use Rattle.std.proofs.Common.{◌∙◌}
use Rattle.kfs_image_nodes.proofs.NameEdits.{read_seen}
use Rattle.kfs_image_nodes.proofs.tallies.Tallies.name_count.Goals as goal

pub returns : goal.returns
returns g c = c.get_or.ensures ∙ read_seen c.args.counts.now c.args.self.now.counts.latest c.args.dir c.copied.result (c.copied.ensures ∙ c.get.ensures)
