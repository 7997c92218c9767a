-- A script: the steps of eight workers, and calls that are no submissions, in one order; and what its runs lead to.
use Rattle.std.specs.Prelude.{◌≡◌, ◌≢◌, ◌⊎◌, ℕ, List, [], ◌∷◌, length, map, replicate, get_or, set, Option, Some, None}
use Rattle.std.specs.List.{slice_get}
use Rattle.kfs_model.specs.Judgement.{State, Submission}
use Rattle.kfs_model.specs.Machine.{Call, Migrate}
use Rattle.kfs_desk.specs.declared.history.answers.ActReply.{ActReply}
use Rattle.kfs_desk.specs.declared.history.answers.Done.{Done}
use Rattle.kfs_desk.specs.declared.history.answers.Done.TheVariants.{Moved}
use Rattle.kfs_desk.specs.declared.history.answers.Reply.{Reply}
use Rattle.kfs_desk.specs.Machine.{Desk, IsActed, call_of, done_by}
use Rattle.kfs_desk.specs.Verdict.Verdict.{HeldVerdict, IsVerdictOn, LandsVerdict}
use Rattle.kfs_workers.specs.declared.script.Step.{Step}
use Rattle.kfs_workers.specs.declared.script.Step.TheVariants as steps

-- what a worker may hold: a submission with the state that it saw, or the verdict on it
pub data Holding : Type 0 where
  Taken : (ticket : ℕ) (submission : Submission) (seen : State) → Holding
  Decided : (ticket : ℕ) (verdict : HeldVerdict) → Holding

-- the state of a script: the desk, the submissions that wait, what each worker holds, and the replies
pub record ScriptState : Type 0 where
  pub desk : Desk
  pub waiting : List (Option Submission)
  pub hands : List (Option Holding)
  pub replies : List (Option Reply)

-- the start of a script: all submissions wait, and eight workers hold nothing
abbrev pub begun : Desk → List Submission → ScriptState
begun desk submissions = record { desk = desk; waiting = map Some submissions; hands = replicate 8 None; replies = map (λ submission. None) submissions }

-- the state in which the worker holds this instead
abbrev pub with_hand : ScriptState → (worker : ℕ) → Option Holding → ScriptState
with_hand state worker hand = record state { hands = set state.hands worker hand }

-- the state in which the submission waits under its ticket again and the worker holds nothing
abbrev pub given_back : ScriptState → (worker ticket : ℕ) → Submission → ScriptState
given_back state worker ticket submission = record state { waiting = set state.waiting ticket (Some submission); hands = set state.hands worker None }

-- ---- one step

-- the state in which the worker has taken the ticket's submission, having seen the desk's state now
abbrev pub taken : ScriptState → (worker ticket : ℕ) → Submission → ScriptState
taken state worker ticket submission =
    record state { waiting = set state.waiting ticket None; hands = set state.hands worker (Some (Taken ticket submission state.desk.state)) }

-- a Look: a worker who holds nothing takes a submission that waits, unless memory runs out; else
-- nothing changes
abbrev pub DoesLook : ScriptState → (worker ticket : ℕ) → (hand : Option (Option Holding)) → (waits : Option Submission) → ScriptState → Type 0
DoesLook state worker ticket (Some None) (Some submission) next = (next ≡ taken state worker ticket submission) ⊎ (next ≡ state)
DoesLook state worker ticket hand waits next = next ≡ state

-- a Judge: a submission that was taken is judged in the state that was seen, or goes back where memory
-- is refused; else nothing changes
abbrev pub DoesJudge : ScriptState → (worker : ℕ) → (hand : Option Holding) → ScriptState → Type 0
DoesJudge state worker (Some (Taken ticket submission seen)) next =
    ((verdict : HeldVerdict) × IsVerdictOn seen submission verdict × (next ≡ with_hand state worker (Some (Decided ticket verdict)))) ⊎ (next ≡ given_back state worker ticket submission)
DoesJudge state worker hand next = next ≡ state

-- the verdict is landed at the desk now, its ticket has the reply, and the worker holds nothing
pub record VerdictIsLanded (state : ScriptState) (worker ticket : ℕ) (verdict : HeldVerdict) (next : ScriptState) : Type 0 where
  pub answer : Reply
  pub landed : LandsVerdict state.desk verdict answer next.desk
  pub is : next ≡ record { desk = next.desk; waiting = state.waiting; hands = set state.hands worker None; replies = set state.replies ticket (Some answer) }

-- a Land: a verdict is landed, or its submission goes back where memory runs out or the docket is
-- full; else nothing changes
abbrev pub DoesLand : ScriptState → (worker : ℕ) → (hand : Option Holding) → ScriptState → Type 0
DoesLand state worker (Some (Decided ticket verdict)) next = VerdictIsLanded state worker ticket verdict next ⊎ (next ≡ given_back state worker ticket verdict.submission)
DoesLand state worker hand next = next ≡ state

-- the call is answered at the desk now; done, it is told in these words
pub record IsAsked (state : ScriptState) (call : Call) (words : ℕ → Done) (next : ScriptState) : Type 0 where
  pub reply : ActReply
  pub room : length state.desk.docket ≢ state.desk.limit
  pub acted : IsActed state.desk call words reply next.desk
  pub is : next ≡ record state { desk = next.desk }

-- a call that is no submission: it is answered, or nothing changes where memory runs out or the docket
-- is full
abbrev pub DoesCall : ScriptState → Call → (words : ℕ → Done) → ScriptState → Type 0
DoesCall state call words next = IsAsked state call words next ⊎ (next ≡ state)

abbrev pub DoesStep : ScriptState → Step → ScriptState → Type 0
DoesStep state (steps.Look worker ticket) next = DoesLook state worker ticket (slice_get state.hands worker) (get_or state.waiting ticket None) next
DoesStep state (steps.Judge worker) next = DoesJudge state worker (get_or state.hands worker None) next
DoesStep state (steps.Land worker) next = DoesLand state worker (get_or state.hands worker None) next
DoesStep state (steps.Act act) next = DoesCall state (call_of act) (done_by act) next
DoesStep state (steps.Migrate moves) next = DoesCall state (Migrate moves.now) Moved next

-- ---- all steps

-- the steps lead from the one state to the other, one after another
abbrev pub DoesSteps : ScriptState → List Step → ScriptState → Type 0
DoesSteps state [] last = last ≡ state
DoesSteps state (step ∷ steps) last = (next : ScriptState) × DoesStep state step next × DoesSteps next steps last

-- the submissions that wait, with the one that a worker holds put back
abbrev pub returned : Option Holding → List (Option Submission) → List (Option Submission)
returned None waiting = waiting
returned (Some (Taken ticket submission seen)) waiting = set waiting ticket (Some submission)
returned (Some (Decided ticket verdict)) waiting = set waiting ticket (Some verdict.submission)

abbrev pub all_returned : List (Option Holding) → List (Option Submission) → List (Option Submission)
all_returned [] waiting = waiting
all_returned (hand ∷ hands) waiting = all_returned hands (returned hand waiting)

-- a run of the script over these submissions gives these replies, leaves these submissions, and ends
-- with this desk
pub record IsRun (desk : Desk) (submissions : List Submission) (script : List Step) (replies : List (Option Reply)) (left : List (Option Submission)) (last : Desk) : Type 0 where
  pub state : ScriptState
  pub runs : DoesSteps (begun desk submissions) script state
  pub replied : replies ≡ state.replies
  pub remains : left ≡ all_returned state.hands state.waiting
  pub ends : last ≡ state.desk
