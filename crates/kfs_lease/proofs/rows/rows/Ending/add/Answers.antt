use Rattle.std.proofs.Common.{None}
use Rattle.kfs_maps.proofs.ChunksLemmas.Overlays.{overlaid_set}
use Rattle.kfs_lease.proofs.rows.rows.Ending.add.Goals as goal

pub returns-clause-rows : goal.returns-clause-rows
returns-clause-rows g c = λ t. overlaid_set t c.args.self.now.rows.latest c.set.new.self.latest c.args.end.key None c.in_ok-set.ensures

pub returns-clause-ends : goal.returns-clause-ends
returns-clause-ends g c = λ t. overlaid_set t c.args.self.now.ends.latest c.set-2.new.self.latest c.args.end None c.in_ok-set-2.ensures

pub returns-clause-of_clients : goal.returns-clause-of_clients
returns-clause-of_clients g c = λ t. overlaid_set t c.args.self.now.of_clients.latest c.set-3.new.self.latest (c.args.end.key.1, c.args.end.key.0) None c.in_ok-set-3.ensures
