use Rattle.std.proofs.Common.{length}
use Rattle.kfs_shared.proofs.landings.+hand_back.Given as goal

abbrev pub decreases-hand_back : goal.decreases-hand_back
decreases-hand_back g l = length l.landings.now
