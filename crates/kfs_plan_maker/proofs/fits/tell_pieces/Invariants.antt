use Rattle.std.proofs.Common.{All, take}
use Rattle.kfs_model.specs.Spelling.{IsPiece}
use Rattle.kfs_types.specs.Views.{piece_of}
use Rattle.kfs_plan_maker.proofs.fits.tell_pieces.Given as goal

abbrev pub invariant-loop-row : goal.invariant-loop-row
invariant-loop-row l = All (λ row. IsPiece (piece_of row)) (take l.row-index l.rows)
