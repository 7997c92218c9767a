-- What two plans that differ only in how their pieces are cut have in common.
use Rattle.std.specs.Prelude.{◌≡◌, ℕ, ◌-◌, ◌<◌, List, [], ◌∷◌, Option, Some, None, if◌then◌else◌}
use Rattle.std.specs.List.{AllByRecursion}
use Rattle.kfs_model.specs.Run.{Mark}
use Rattle.kfs_model.specs.PlanRow.{Piece, Plan}
use Rattle.kfs_model.specs.Plan.{mark_of_source, covers, PiecesAscend}

-- the mark that the pieces give a byte, none where the byte is in no piece
abbrev pub mark_in_pieces : List Piece → (number place : ℕ) → Option Mark
mark_in_pieces [] number place = None
mark_in_pieces (p ∷ ps) number place = if covers number place p then Some (mark_of_source p.source (place - p.start)) else mark_in_pieces ps number place

-- both plans have the same name and node rows, and their pieces give each byte the same mark
pub record SaySame (plan other : Plan) : Type 0 where
  pub names : plan.names ≡ other.names
  pub nodes : plan.nodes ≡ other.nodes
  pub bytes : (number place : ℕ) → mark_in_pieces plan.pieces number place ≡ mark_in_pieces other.pieces number place

-- the pieces ascend, don't overlap, and none is empty
pub record AreInOrder (pieces : List Piece) : Type 0 where
  pub ascending : PiecesAscend pieces
  pub filled : AllByRecursion (λ (p : Piece). 0 < p.length) pieces

-- the other plan says the same, and its pieces are in order
pub record IsCutAnew (plan other : Plan) : Type 0 where
  pub same : SaySame plan other
  pub order : AreInOrder other.pieces
