use Rattle.std.proofs.Common.{length}
use Rattle.kfs_shared.proofs.landings.+land_in.Given as goal

abbrev pub decreases-land_in : goal.decreases-land_in
decreases-land_in g l = length l.landings.now
