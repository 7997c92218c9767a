-- What two runs of one log, over two trees of marks, have in common.
use Rattle.std.specs.Prelude.{◌≡◌, ℕ, Bool, false, List, Some, Result, Ok, Err}
use Rattle.kfs_model.specs.Access.{Client}
use Rattle.kfs_model.specs.Entry.{Entry}
use Rattle.kfs_model.specs.Looked.{AgreeWhereLooked}
use Rattle.kfs_model.specs.Plan.{mark_at, is_base}
use Rattle.kfs_model.specs.Run.{Mark, EntryFault, run, over_marks, marked}
use Rattle.kfs_model.specs.Sight.{client_sight}
use Rattle.kfs_model.specs.Tree.{Tree}

-- each byte that the log made in the one tree stands in the other too: in the same file, at the same
-- place, with the same mark
abbrev pub ChangesStandIn : (one other : Tree Mark) → Type 0
ChangesStandIn one other = (number place : ℕ) (mark : Mark) → is_base mark ≡ false → mark_at one number place ≡ Some mark → mark_at other number place ≡ Some mark

-- the log made the same bytes in both trees
pub record HaveSameNewMarks (one other : Tree Mark) : Type 0 where
  pub there : ChangesStandIn one other
  pub back : ChangesStandIn other one

-- both runs end with the same fault, or end without one at trees with property P
abbrev pub BothEnd : (P : (one other : Tree Mark) → Type 0) → Result (Tree Mark) EntryFault → Result (Tree Mark) EntryFault → Type 0
BothEnd P (Ok one) (Ok other) = P one other
BothEnd P (Ok one) (Err fault) = ⊥
BothEnd P (Err fault) (Ok other) = ⊥
BothEnd P (Err fault) (Err other) = fault ≡ other

-- where the looked-at cells have the same answers, the runs over the two trees' marks end with the same
-- fault, or end without one at trees with property P; it doesn't matter which leases the client holds
-- in each
abbrev pub MarksEnd : (P : (after other_after : Tree Mark) → Type 0) → Client → (one other : Tree ℕ) → List Entry → Type 0
MarksEnd P client one other entries = (held other_held : ℕ → Bool) → AgreeWhereLooked client (client_sight one held) (client_sight other other_held) entries
    → BothEnd P (run over_marks client (client_sight one held) (marked one) entries) (run over_marks client (client_sight other other_held) (marked other) entries)
