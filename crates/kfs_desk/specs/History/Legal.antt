-- What makes a docket legal.
use Rattle.std.specs.Prelude.{◌≡◌, List, Some}
use Rattle.std.specs.List.{AllByRecursion}
use Rattle.kfs_model.specs.Judgement.{State}
use Rattle.kfs_model.specs.Machine.{IsRead, Row, after}
use Rattle.kfs_desk.specs.History.Least.{HaveLeastPlaces}

-- the rows lead from the opening to the state, each one fits, and each one's log and plan are what its
-- bytes decode to; a Yes takes the least free places
pub record IsLegalDocket (opening : State) (docket : List Row) (s : State) : Type 0 where
  pub read : AllByRecursion IsRead docket
  pub fit : after opening docket ≡ Some s
  pub least : HaveLeastPlaces opening docket
