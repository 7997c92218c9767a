use Rattle.std.proofs.Common.{ap, length}
use Rattle.kfs_program.specs.Verdicts.Holding.{hands_of}
use Rattle.kfs_program.proofs.verdicts.held_verdicts.HeldVerdicts.new.Goals as goal

pub invariant_of-result : goal.invariant_of-result
invariant_of-result g c = ap length c.in_ok-held.ensures

pub returns : goal.returns
returns g c = ap hands_of c.in_ok-held.ensures
