use Rattle.kfs_kept.proofs.SameClients.{lists_decided}
use Rattle.kfs_kept.proofs.admitting.are_same.Goals as goal

pub returns : goal.returns
returns c = lists_decided c.args.one.now c.args.other.now c.eq.result c.eq.ensures
