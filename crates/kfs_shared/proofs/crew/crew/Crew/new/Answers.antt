use Rattle.std.proofs.Common.{arith}
use Rattle.kfs_shared.proofs.CrewLemmas.Shares.{quotient_le}
use Rattle.kfs_shared.proofs.crew.crew.Crew.new.Goals as goal

pub overflow_add-tasks : goal.overflow_add-tasks
overflow_add-tasks g c = let low = quotient_le c.args.tasks c.args.workers c.requires.some in let few = c.requires.few in omega arith

pub returns-clause-room : goal.returns-clause-room
returns-clause-room g c = λ k d low. let room = c.in_ok-shares.ensures.room k d low in omega arith
