use Rattle.kfs_pieces.proofs.ClearedRuns.{cleared_are_in_ranges}
use Rattle.kfs_pieces.proofs.laws.cleared_blocks_are_in_ranges.Goals as goal

pub returns : goal.returns
returns c after pieces are number block = cleared_are_in_ranges number block after pieces are
