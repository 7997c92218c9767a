use Rattle.kfs_pieces.proofs.PiecesApart.{first_wrong_is_apart}
use Rattle.kfs_pieces.proofs.laws.pieces_are_followed.Goals as goal

pub returns : goal.returns
returns c = first_wrong_is_apart
