use Rattle.std.proofs.Common.{length}
use Rattle.kfs_pieces.proofs.merge.+last_of_all.Given as goal

abbrev pub decreases-last_of_all : goal.decreases-last_of_all
decreases-last_of_all g l = length l.ranges.now
