use Rattle.std.proofs.Common.{sym, subst}
use Rattle.kfs_model.specs.Lease.{LeaseTable}
use Rattle.kfs_lease.specs.InForce.{AreInForce}
use Rattle.kfs_lease.proofs.LeasesInForce.{none_in_force}
use Rattle.kfs_lease.proofs.leases.Leases.new.Goals as goal

pub invariant_of-result : goal.invariant_of-result
invariant_of-result g c = (c.empty.ensures.indexed, subst (λ (t : LeaseTable). AreInForce (record { rows = t; moment = 0 })) (sym c.empty.ensures.table) none_in_force)
