-- Moves of blocks to other places (Strata, migration): why a list of moves is refused, and where blocks
-- lie afterwards.
use Rattle.std.specs.Prelude.{ℕ, ◌==◌, ◌&&◌, ◌||◌, not, nat_lt, Bool, List, length, find, Option, Some, None, is_none, if◌then◌else◌}
use Rattle.std.specs.List.{list_any}
use Rattle.kfs_model.specs.FirstAnswer.{first_answer}
use Rattle.kfs_model.specs.Placement.{TierSizes, Place, Placement, tier_size, is_free}
use Rattle.kfs_model.specs.Table.{get, mapped}

-- the most moves of one call
abbrev pub move_limit : ℕ
move_limit = 1024

-- a block of a file, and the place to which it moves
pub record Move : Type 0 where
  pub number : ℕ
  pub block : ℕ
  pub target : Place

-- why moves are refused; they are counted from 0
pub data MoveFault : Type 0 where
  NotMapped OutOfRange NotFree Overlap : (index : ℕ) → MoveFault
  TooManyMoves : MoveFault
  deriving Discrete as MoveFault-discrete

-- the block that moves, as file number and block
abbrev pub source : Move → ℕ × ℕ
source m = (m.number, m.block)

-- whether this block moves
abbrev pub has_source : ℕ × ℕ → Move → Bool
has_source block m = (m.number == block.0) && (m.block == block.1)

-- whether a block moves to this place
abbrev pub has_target : Place → Move → Bool
has_target place m = (m.target.tier == place.tier) && (m.target.place == place.place)

-- whether the two moves have the same source or the same target
abbrev pub moves_overlap : (one other : Move) → Bool
moves_overlap one other = has_source (source other) one || has_target other.target one

module _ (sizes : TierSizes) (placement : Placement) where
  -- why the move can't be made together with the earlier ones: its block lies nowhere, its target doesn't
  -- exist, a block lies there, or an earlier move has its source or its target
  abbrev pub fault_of_move : (earlier : List Move) → Move → Option MoveFault
  fault_of_move earlier m =
      if is_none (get placement (source m)) then Some (NotMapped (length earlier))
      else if not (nat_lt m.target.place (tier_size sizes m.target.tier)) then Some (OutOfRange (length earlier))
      else if not (is_free placement m.target) then Some (NotFree (length earlier))
      else if list_any (λ other. moves_overlap other m) earlier then Some (Overlap (length earlier))
      else None

  -- why the moves are refused: there are too many, or else the fault of the first one that has one
  abbrev pub fault_of_moves : List Move → Option MoveFault
  fault_of_moves moves = if nat_lt move_limit (length moves) then Some TooManyMoves else first_answer fault_of_move moves

-- where a block lies that lay at this place
abbrev pub place_after : List Move → (block : ℕ × ℕ) → Place → Place
place_after moves block place = elim (find (has_source block) moves) [ None ↦ place | Some m ↦ m.target ]

-- each block that moves lies at its target, all at once; each other block lies where it lay
unfoldable pub moved_by : List Move → Placement → Placement
moved_by moves placement = mapped (place_after moves) placement
