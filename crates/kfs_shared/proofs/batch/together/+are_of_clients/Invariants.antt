use Rattle.std.proofs.Common.{length}
use Rattle.kfs_shared.proofs.batch.together.+are_of_clients.Given as goal

abbrev pub decreases-are_of_clients : goal.decreases-are_of_clients
decreases-are_of_clients g l = length l.jobs.now
