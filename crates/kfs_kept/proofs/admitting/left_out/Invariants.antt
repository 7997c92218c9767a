use Rattle.std.proofs.Common.{All, Contains, take}
use Rattle.kfs_kept.proofs.admitting.left_out.Given as goal

abbrev pub invariant-loop-client : goal.invariant-loop-client
invariant-loop-client l = All (λ client. Contains l.new client) (take l.client-index l.old)
