-- Two desks that are handed the same calls.
use Rattle.std.specs.Prelude.{◌≡◌, ℕ, take, drop, Some}
use Rattle.std.specs.List.{AllByRecursion}
use Rattle.kfs_model.specs.Judgement.{State}
use Rattle.kfs_model.specs.Machine.{after}
use Rattle.kfs_desk.specs.History.Runs.{AreBytes, answers_of, asked_of}
use Rattle.kfs_desk.specs.Machine.{Desk}

-- the desk showed this state when its docket had so many rows
abbrev pub ShowedAt : Desk → (rows : ℕ) → State → Type 0
ShowedAt desk rows s = after desk.opening (take rows desk.docket) ≡ Some s

-- both showed one state, each after so many rows, and were handed the same since then, logs and plans as the
-- same bytes: then they gave the same answers, and show one state
abbrev pub HaveSameAnswersSince : (one other : Desk) → Type 0
HaveSameAnswersSince one other =
    (m n : ℕ) (s : State) → ShowedAt one m s → ShowedAt other n s
    → AllByRecursion AreBytes (asked_of (drop m one.docket)) → asked_of (drop m one.docket) ≡ asked_of (drop n other.docket)
    → (answers_of (drop m one.docket) ≡ answers_of (drop n other.docket)) × (one.state ≡ other.state)
