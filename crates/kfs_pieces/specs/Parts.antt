-- The pieces of one file after another.
use Rattle.std.specs.Prelude.{◌≡◌, ℕ, suc, ◌≤◌, ◌==◌, List, [], ◌∷◌, if◌then◌else◌}
use Rattle.kfs_model.specs.Placement.{need}
use Rattle.kfs_model.specs.PlanRow.{Piece}
use Rattle.kfs_model.specs.Run.{Mark}
use Rattle.kfs_model.specs.Tree.{Tree}
use Rattle.kfs_types.specs.declared.plan.Piece.{Piece as CodePiece}
use Rattle.kfs_pieces.specs.declared.log.FileSize.{FileSize}
use Rattle.kfs_pieces.specs.Sizes.{AreSwept}

-- the pieces ascend by file number, from `least` on
abbrev pub AreByNumber : (least : ℕ) → List CodePiece → Type 0
AreByNumber least [] = Unit {0}
AreByNumber least (p ∷ ps) = (least ≤ p.number) × AreByNumber p.number ps

-- how many pieces at the front are of this file
abbrev pub front_len : (number : ℕ) → List CodePiece → ℕ
front_len number [] = 0
front_len number (p ∷ ps) = if p.number == number then suc (front_len number ps) else 0

-- the count is the need of each tree of which these are right pieces, where the sizes of its files are
-- these
abbrev pub IsNeedOf : List FileSize → List Piece → (count : ℕ) → Type 0
IsNeedOf sizes pieces count = (after : Tree Mark) → AreSwept sizes after pieces → count ≡ need after
