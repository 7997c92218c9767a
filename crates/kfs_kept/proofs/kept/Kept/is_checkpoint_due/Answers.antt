use Rattle.std.proofs.Common.{IsTrue, rules}
use Rattle.kfs_kept.proofs.Due.{stands_on}
use Rattle.kfs_kept.proofs.kept.Kept.is_checkpoint_due.Goals as goal

pub returns-then-self : goal.returns-then-self
returns-then-self g c =
    let is_open : IsTrue c.args.self.now.is_open = search rules in
    let due = c.is_change_due.ensures (g.D.Disk.seen c.args.self.now.disk) (stands_on _ _ _ (c.requires.kept is_open).settled) in
    record { due = ((λ is. (is_open, due.0 is)), (λ both. due.1 both.1)) }
