use Rattle.std.proofs.Common.{◌≡◌, ◌++◌, drop}
use Rattle.kfs_pieces.specs.ByteRanges.{merged}
use Rattle.kfs_pieces.specs.Rests.{rest_of}
use Rattle.kfs_pieces.proofs.merge.laid_over.Given as goal

abbrev pub invariant-loop-range : goal.invariant-loop-range
invariant-loop-range g l = l.out.items ++ merged (rest_of l.lower l.rest) (drop l.range-index l.upper) ≡ merged l.lower l.upper
