-- How a desk was begun, and which dockets a desk that began so may have.
use Rattle.std.specs.Prelude.{ℕ, ◌≤◌, List, length}
use Rattle.kfs_model.specs.Judgement.{State}
use Rattle.kfs_model.specs.Machine.{Row}
use Rattle.kfs_desk.specs.History.Legal.{IsLegalDocket}
use Rattle.kfs_desk.specs.Machine.{AreShown, Desk}

-- the state at the start, and how many rows the docket may have
pub record Beginning : Type 0 where
  pub opening : State
  pub limit : ℕ

abbrev pub beginning_of : Desk → Beginning
beginning_of desk = record { opening = desk.opening; limit = desk.limit }

-- the rows lead from the opening to some state, there are no more than the limit, and a well formed
-- image shows each state on the way
pub record IsDocketFrom (beginning : Beginning) (docket : List Row) : Type 0 where
  pub leads : (s : State) × IsLegalDocket beginning.opening docket s
  pub within : length docket ≤ beginning.limit
  pub shown : AreShown beginning.opening docket
