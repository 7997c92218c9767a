-- The docket keeps to its limit and its states are shown, as the type of a desk says.
use Rattle.std.proofs.Common.{◌≤◌, length, subst}
use Rattle.kfs_desk.specs.Machine.{AreShown, Desk}
use Rattle.kfs_desk.proofs.desk.Desk.docket.Goals as goal

pub returns-clause-within : goal.returns-clause-within
returns-clause-within g c = subst (λ (d : Desk). length d.docket ≤ d.limit) c.self.view_is c.self.invariant.within_limit

pub returns-clause-images : goal.returns-clause-images
returns-clause-images g c = subst (λ (d : Desk). AreShown d.opening d.docket) c.self.view_is c.self.invariant.shown
