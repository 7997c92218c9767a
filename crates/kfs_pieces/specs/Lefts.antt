-- What is left of right pieces while a plan's pieces are compared with them.
use Rattle.std.specs.Prelude.{ℕ, ◌+◌, ◌<◌, ◌≤◌, ◌^◌, List, [], ◌∷◌, drop, map, Some, None}
use Rattle.kfs_model.specs.Limits.{size_limit}
use Rattle.kfs_model.specs.PlanRow.{Piece, Source, Zero, Payload}
use Rattle.kfs_types.specs.Views.{piece_of}
use Rattle.kfs_types.specs.declared.plan.Piece.{Piece as CodePiece}
use Rattle.kfs_pieces.specs.declared.compare.Rest.{Rest}
use Rattle.kfs_pieces.specs.Rests.{rest_of}

-- the pieces left, as those of the definitions
abbrev pub pieces_left : List CodePiece → Rest CodePiece → List Piece
pieces_left right left = map piece_of (rest_of right left)

abbrev pub IsPlaceShort : Source → ℕ → Type 0
IsPlaceShort Zero distance = Unit {0}
IsPlaceShort (Payload entry place) distance = place + distance < 2 ^ 32

-- the first `distance` bytes of the piece end in range, in the file and in the payload
pub record FrontIsInRange (p : Piece) (distance : ℕ) : Type 0 where
  pub start : p.start + distance ≤ size_limit
  pub place : IsPlaceShort p.source distance

-- the whole piece ends in range
abbrev pub PieceIsInRange : CodePiece → Type 0
PieceIsInRange p = FrontIsInRange (piece_of p) p.len

abbrev pub IsFilled : CodePiece → Type 0
IsFilled p = 0 < p.len
