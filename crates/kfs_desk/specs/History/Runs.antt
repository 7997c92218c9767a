-- Calls one after another, each with the least free places: the answers and the state are a function of
-- the first state and the calls.
use Rattle.std.specs.Prelude.{◌≡◌, ℕ, List, [], ◌∷◌, length, map, take, Option, Some, None, Result, Ok, Err}
use Rattle.std.specs.List.{AllByRecursion}
use Rattle.kfs_model.specs.Judgement.{State, Submission, Verdict, Yes, Reply, Accepted, free_places, reply_to, verdict_on}
use Rattle.kfs_model.specs.Lease.{LeaseFault, LeaseKind, Leases, granted, granted_by_number, dropped, ticked}
use Rattle.kfs_model.specs.Machine.{Call, Submit, Lease, Drop, Tick, Migrate, LeaseAt, CallAnswer, CallOutcome, Done, IsRead, LeaseRefused, MovesRefused, NotDone, Replied, Row, after, landed}
use Rattle.kfs_model.specs.Migration.{Move, MoveFault, fault_of_moves, moved_by}
use Rattle.kfs_model.specs.Sight.{sight}
use Rattle.kfs_model.specs.Spelling.{IsBytes}
use Rattle.kfs_desk.specs.History.Least.{HaveLeastPlaces}

-- ---- one call

abbrev pub replied_least : State → Verdict → Reply → CallOutcome
replied_least s (Yes after marked_after) (Accepted need) = (Replied (Accepted need), landed s after marked_after (take need (free_places s)))
replied_least s verdict reply = (Replied reply, s)

abbrev pub leased_to : State → Result ℕ LeaseFault × Leases → CallOutcome
leased_to s (Ok number, leases) = (Done number, record s { leases = leases })
leased_to s (Err fault, leases) = (NotDone (LeaseRefused fault), record s { leases = leases })

abbrev pub migrated_to : State → List Move → Option MoveFault → CallOutcome
migrated_to s moves None = (Done (length moves), record s { placement = moved_by moves s.placement })
migrated_to s moves (Some fault) = (NotDone (MovesRefused fault), s)

-- the answer of the call, and the state afterwards
unfoldable pub made : State → Call → CallOutcome
made s (Submit submission reading) = replied_least s (verdict_on s submission.client reading) (reply_to s (verdict_on s submission.client reading))
made s (Lease client path kind end) = leased_to s (granted s.leases (sight s.tree) s.clients client path kind end)
made s (Drop client number) = leased_to s (dropped s.leases s.clients client number)
made s (Tick moment) = leased_to s (ticked s.leases moment)
made s (Migrate moves) = migrated_to s moves (fault_of_moves s.sizes s.placement moves)
made s (LeaseAt client number kind end) = leased_to s (granted_by_number s.leases (sight s.tree) s.clients client number kind end)

-- ---- calls one after another

-- the answers of a run, and the state after it
abbrev pub RunOutcome : Type 0
RunOutcome = List CallAnswer × State

abbrev pub behind : CallAnswer → RunOutcome → RunOutcome
behind answer outcome = (answer ∷ outcome.0, outcome.1)

unfoldable pub run_calls : State → List Call → RunOutcome
run_calls s [] = ([], s)
run_calls s (call ∷ calls) = behind (made s call).0 (run_calls (made s call).1 calls)

abbrev pub calls_of : List Row → List Call
calls_of rows = map (λ (row : Row). row.call) rows

abbrev pub answers_of : List Row → List CallAnswer
answers_of rows = map (λ (row : Row). row.answer) rows

-- the docket leads from the one state to the other, and takes the least free places
pub record LeadsLeast (s : State) (docket : List Row) (t : State) : Type 0 where
  pub fit : after s docket ≡ Some t
  pub least : HaveLeastPlaces s docket

-- a docket of these calls and answers
pub record IsDocketOf (s : State) (calls : List Call) (answers : List CallAnswer) (t : State) : Type 0 where
  pub docket : List Row
  pub asked_so : calls_of docket ≡ calls
  pub answered_so : answers_of docket ≡ answers
  pub leads : LeadsLeast s docket t

-- ---- laws

-- a docket with the least free places is a run of its calls: its answers and its state are those of the run
abbrev pub LeastIsRun : Type 0
LeastIsRun = (s t : State) (docket : List Row) → LeadsLeast s docket t → run_calls s (calls_of docket) ≡ (answers_of docket, t)

-- and each run is such a docket
abbrev pub RunIsLeast : Type 0
RunIsLeast = (s : State) (calls : List Call) → IsDocketOf s calls (run_calls s calls).0 (run_calls s calls).1

-- so the same calls have the same answers and lead to the same state
abbrev pub SameCallsSameState : Type 0
SameCallsSameState =
    (s t u : State) (one other : List Row) → LeadsLeast s one t → LeadsLeast s other u → calls_of one ≡ calls_of other → (answers_of one ≡ answers_of other) × (t ≡ u)

-- ---- calls as they are handed in

-- a call without what its bytes decode to
pub data Asked : Type 0 where
  AskSubmit : (submission : Submission) → Asked
  AskLease : (client : ℕ) (path : List ℕ) (kind : LeaseKind) (end : ℕ) → Asked
  AskDrop : (client number : ℕ) → Asked
  AskTick : (moment : ℕ) → Asked
  AskMigrate : (moves : List Move) → Asked
  AskLeaseAt : (client number : ℕ) (kind : LeaseKind) (end : ℕ) → Asked

abbrev pub asked : Call → Asked
asked (Submit submission reading) = AskSubmit submission
asked (Lease client path kind end) = AskLease client path kind end
asked (Drop client number) = AskDrop client number
asked (Tick moment) = AskTick moment
asked (Migrate moves) = AskMigrate moves
asked (LeaseAt client number kind end) = AskLeaseAt client number kind end

abbrev pub asked_of : List Row → List Asked
asked_of rows = map (λ (row : Row). asked row.call) rows

-- log and plan are bytes
abbrev pub AreBytes : Asked → Type 0
AreBytes (AskSubmit submission) = IsBytes submission.log × IsBytes submission.plan
AreBytes (AskLease client path kind end) = Unit {0}
AreBytes (AskDrop client number) = Unit {0}
AreBytes (AskTick moment) = Unit {0}
AreBytes (AskMigrate moves) = Unit {0}
AreBytes (AskLeaseAt client number kind end) = Unit {0}

-- the same, where the same was handed in and each row is read as its bytes say
abbrev pub SameAskedSameState : Type 0
SameAskedSameState =
    (s t u : State) (one other : List Row) → AllByRecursion IsRead one → AllByRecursion IsRead other → AllByRecursion AreBytes (asked_of one)
    → LeadsLeast s one t → LeadsLeast s other u → asked_of one ≡ asked_of other → (answers_of one ≡ answers_of other) × (t ≡ u)
