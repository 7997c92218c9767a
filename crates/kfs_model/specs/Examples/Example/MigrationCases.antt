-- Moves of the blocks of two files.
use Rattle.std.specs.Prelude.{ℕ, false, List, [], ◌∷◌, replicate, Option}
use Rattle.kfs_model.specs.Placement.{TierSizes, Place, Placement}
use Rattle.kfs_model.specs.Migration.{Move, MoveFault, fault_of_moves}
use Rattle.kfs_model.specs.Judgement.{State}
use Rattle.kfs_model.specs.Machine.{CallAnswer, Migrate, Row}
use Rattle.kfs_model.specs.Examples.Example.{table}
use Rattle.kfs_model.specs.Examples.Example.PlacementCases.{files}

abbrev pub place : (tier number : ℕ) → Place
place tier number = record { tier = tier; place = number }

-- block 0 of file 5 lies at this place, and that of file 6 at the other one
abbrev pub two_at : Place → Place → Placement
two_at of_5 of_6 = table (((5, 0), of_5) ∷ ((6, 0), of_6) ∷ [])

-- at places 0 and 1 of tier 0
abbrev pub side_by_side : Placement
side_by_side = two_at (place 0 0) (place 0 1)

abbrev pub sizes : TierSizes
sizes = record { first = 8; second = 8; third = 8 }

abbrev pub move_to : (number block : ℕ) → Place → Move
move_to number block target = record { number = number; block = block; target = target }

abbrev pub fault_found : List Move → Option MoveFault
fault_found moves = fault_of_moves sizes side_by_side moves

-- block 0 of file 5 to place 3 of tier 2, so many times
abbrev pub same_move : (count : ℕ) → List Move
same_move count = replicate count (move_to 5 0 (place 2 3))

-- files 5 and 6 have a byte each, and their blocks lie so
abbrev pub with_blocks : Placement → State
with_blocks placement = record (files (104 ∷ []) (105 ∷ [])) { placement = placement }

-- a docket's row: what moves are answered
abbrev pub moves_row : List Move → CallAnswer → Row
moves_row moves answer = record { call = Migrate moves; answer = answer; rejudged = false; places = [] }
