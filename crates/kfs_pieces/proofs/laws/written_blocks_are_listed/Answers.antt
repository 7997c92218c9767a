use Rattle.kfs_pieces.proofs.WrittenLists.{written_are_listed}
use Rattle.kfs_pieces.proofs.laws.written_blocks_are_listed.Goals as goal

pub returns : goal.returns
returns c = written_are_listed
