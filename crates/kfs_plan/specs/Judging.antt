-- What a judgement answered, in terms of the definitions.
use Rattle.std.specs.Prelude.{◌≡◌, ◌≢◌, ℕ, Bool, true, false, List, [], length, Option, None, Some, IsSome, Result, Ok, Err}
use Rattle.std.specs.Option.{option_map}
use Rattle.kfs_model.specs.Access.{Client}
use Rattle.kfs_model.specs.Entry.{Entry, Log}
use Rattle.kfs_model.specs.Tree.{Tree}
use Rattle.kfs_model.specs.Sight.{sight}
use Rattle.kfs_model.specs.Lease.{row_of}
use Rattle.kfs_model.specs.Run.{Mark, run, over_bytes, over_marks, marked}
use Rattle.kfs_model.specs.Plan.{IsRight}
use Rattle.kfs_model.specs.FirstWrong.{RowFault, Names, Nodes, Pieces}
use Rattle.kfs_model.specs.Looked.{looked_cells}
use Rattle.kfs_model.specs.Placement.{need}
use Rattle.kfs_model.specs.Soundness.{IsSound}
use Rattle.kfs_model.specs.Machine.{OneByOne}
use Rattle.kfs_model.specs.Spelling.{SpellingFault, BadHeader, BadEntry, Trailing, BadRow, LogAnswer, PlanAnswer}
use Rattle.kfs_model.specs.Judgement.{State, Submission, Fault, ClientUnknown, ClientWrong, BadLog, BadPlan, AtEntry, AtRow, Verdict, Yes, No, IsJudgement, client_sight_of}
use Rattle.kfs_entry.specs.Answers.{AreSpanned, SpansAreWithin, log_of, plan_of}
use Rattle.kfs_types.specs.declared.entry.Log.{Log as CodeLog}
use Rattle.kfs_types.specs.declared.plan.Plan.{Plan as CodePlan}
use Rattle.kfs_entry.specs.declared.fault.SpellFault.{SpellFault}
use Rattle.kfs_entry.specs.declared.fault.SpellFault.TheVariants as spelling
use Rattle.kfs_image_nodes.specs.Lent.{IsSameNet}
use Rattle.kfs_image_nodes.specs.declared.net.Net.{Net}
use Rattle.kfs_plan.specs.declared.rows.RowFault.{RowFault as CodeRowFault}
use Rattle.kfs_plan.specs.declared.rows.RowFault.TheVariants as rows
use Rattle.kfs_plan.specs.declared.submission.Fault.{Fault as CodeFault}
use Rattle.kfs_plan.specs.declared.submission.Fault.TheVariants as faults
use Rattle.kfs_plan.specs.declared.submission.Submission.{Submission as CodeSubmission}
use Rattle.kfs_plan.specs.declared.submission.Outcome.{Outcome}
use Rattle.kfs_plan.specs.declared.submission.Outcome.TheVariants as outcomes
use Rattle.kfs_plan.specs.declared.judgement.Spelled.{Spelled}
use Rattle.kfs_plan.specs.declared.judgement.Spelled.TheVariants as readings
use Rattle.kfs_judge.specs.Views.{View, Read, ReadAnswer, clients_of, client_sight_in, Agrees, AreAmong}
use Rattle.kfs_judge.specs.declared.walk.EntryFault.{EntryFault as CodeEntryFault}
use Rattle.kfs_pieces.specs.declared.log.FileSize.{FileSize}
use Rattle.kfs_plan.specs.PlanCheck.{TellsOfEachRun}
use Rattle.kfs_judge.specs.Walks.{fault_of}
use Rattle.kfs_judge.specs.Step.Nets.{IsNetOf}

-- ---- faults; a refusal of memory is none, since it isn't a fault of the submission

abbrev pub spelling_fault_of : SpellFault → Option SpellingFault
spelling_fault_of spelling.BadHeader = Some BadHeader
spelling_fault_of (spelling.BadEntry k) = Some (BadEntry k)
spelling_fault_of spelling.Trailing = Some Trailing
spelling_fault_of (spelling.BadRow part k) = Some (BadRow part k)
spelling_fault_of spelling.OutOfMemory = None

abbrev pub row_fault_of : CodeRowFault → Option RowFault
row_fault_of (rows.Names index) = Some (Names index)
row_fault_of (rows.Nodes index) = Some (Nodes index)
row_fault_of (rows.Pieces index) = Some (Pieces index)
row_fault_of rows.OutOfMemory = None

abbrev pub refusal_of : CodeFault → Option Fault
refusal_of faults.UnknownClient = Some ClientUnknown
refusal_of (faults.BadLog fault) = option_map BadLog (spelling_fault_of fault)
refusal_of faults.WrongClient = Some ClientWrong
refusal_of (faults.BadPlan fault) = option_map BadPlan (spelling_fault_of fault)
refusal_of (faults.Entry fault) = Some (AtEntry (fault_of fault))
refusal_of (faults.Row fault) = option_map AtRow (row_fault_of fault)

-- a refusal is by a fault of the submission, and never for lack of memory
abbrev pub RefusesByFault : {A : Type 0} → Outcome A (List ℕ) → Type 0
RefusesByFault (outcomes.No fault) = IsSome (refusal_of fault)
RefusesByFault (outcomes.Yes log plan net told) = Unit {0}

-- the same of what the bytes decode to
abbrev pub StopsByFault : {A : Type 0} → Spelled A → Type 0
StopsByFault (readings.No fault) = IsSome (refusal_of fault)
StopsByFault (readings.Yes log plan) = Unit {0}

-- ---- submissions

abbrev pub submission_with : (client : ℕ) (log plan : List ℕ) → Submission
submission_with client log plan = record { client = client; log = log; plan = plan }

abbrev pub submission_of : {A : Type 0} → CodeSubmission A → Submission
submission_of submission = submission_with submission.client submission.log.items submission.plan.items

-- the bytes are this client's log and this plan, and the payloads' spans lie in the log's bytes and are
-- no longer than payloads may be
pub record AreSpelled {A : Type 0} (submission : Submission) (log : CodeLog A (List ℕ)) (plan : CodePlan A (List ℕ)) : Type 0 where
  pub owner : log.client ≡ submission.client
  pub log_read : LogAnswer submission.log (Ok (log_of submission.log log))
  pub plan_read : PlanAnswer submission.plan (Ok (plan_of plan))
  pub within : SpansAreWithin (length submission.log) log
  pub spanned : AreSpanned log

-- ---- verdicts

-- the state is sound, has this client, and agrees with the reads of a judgement
pub record AgreesWithReads (s : State) (number : ℕ) (client : Option Client) (reads : List (Read × ReadAnswer)) : Type 0 where
  pub sound : IsSound s.tree
  pub row : row_of s.clients number ≡ client
  pub agrees : Agrees reads (client_sight_of s number)

-- the state is sound, has the view's row of this client, and shows the client what the view shows
pub record ShowsAs {A : Type 0} (s : State) (view : View A) (number : ℕ) : Type 0 where
  pub sound : IsSound s.tree
  pub row : row_of s.clients number ≡ row_of (clients_of view) number
  pub sight : client_sight_of s number ≡ client_sight_in view number

-- whether the fault is found before the entries are looked at
abbrev pub is_before_entries : CodeFault → Bool
is_before_entries faults.UnknownClient = true
is_before_entries (faults.BadLog fault) = true
is_before_entries faults.WrongClient = true
is_before_entries (faults.BadPlan fault) = true
is_before_entries (faults.Entry fault) = false
is_before_entries (faults.Row fault) = false

abbrev pub stops_before : {A : Type 0} → Outcome A (List ℕ) → Bool
stops_before (outcomes.No fault) = is_before_entries fault
stops_before (outcomes.Yes log plan net told) = false

-- the bytes decode to a log of a known client, and each read is at a cell that the log looks at
pub record AreOfLog {A : Type 0} (view : View A) (submission : Submission) (reads : List (Read × ReadAnswer)) : Type 0 where
  pub client : Client
  pub row : row_of (clients_of view) submission.client ≡ Some client
  pub log : Log
  pub spelled : LogAnswer submission.log (Ok log)
  pub owner : log.client ≡ submission.client
  pub among : AreAmong reads (looked_cells client (client_sight_in view submission.client) log.entries)

-- nothing was read where the judgement stops before the entries; else only cells were read that the log
-- looks at
pub record AreLooked {A : Type 0} (view : View A) (submission : Submission) (outcome : Outcome A (List ℕ)) (reads : List (Read × ReadAnswer)) : Type 0 where
  pub unread : stops_before outcome ≡ true → reads ≡ []
  pub looked : stops_before outcome ≡ false → AreOfLog view submission reads

-- the entries of the log lead to a sound tree, one by one and each allowed, with this net change and
-- these marks
pub record ComesToNet {A : Type 0} (s : State) (client : Client) (entries : List Entry) (net : Net A (List ℕ)) (after : Tree ℕ) (marked_after : Tree Mark) : Type 0 where
  pub ran : run over_bytes client (client_sight_of s client.number) s.tree entries ≡ Ok after
  pub sound : IsSound after
  pub allowed : OneByOne client (client_sight_of s client.number) 0 [] s.tree entries after
  pub differs : IsNetOf (sight s.tree) (sight after) net
  pub ran_marked : run over_marks client (client_sight_of s client.number) (marked s.tree) entries ≡ Ok marked_after

-- the parts of a Yes: the log, the plan, the net change, and the number of written blocks
pub record YesParts (A : Type 0) : Type 0 where
  pub log : CodeLog A (List ℕ)
  pub plan : CodePlan A (List ℕ)
  pub net : Net A (List ℕ)
  pub told : ℕ

-- a Yes is right: the bytes decode to its log and plan, the entries lead to its net, and `need` blocks are
-- written
pub record TellsYes {A : Type 0} (s : State) (submission : Submission) (parts : YesParts A) (after : Tree ℕ) (marked_after : Tree Mark) : Type 0 where
  pub spelled : AreSpelled submission parts.log parts.plan
  pub client : Client
  pub row : row_of s.clients submission.client ≡ Some client
  pub comes : ComesToNet s client (log_of submission.log parts.log).entries parts.net after marked_after
  pub right : IsRight s.tree marked_after (plan_of parts.plan)
  pub need_told : parts.told ≡ need marked_after

-- the outcome and the verdict say the same
abbrev pub TellsVerdict : {A : Type 0} → State → Submission → Outcome A (List ℕ) → Verdict → Type 0
TellsVerdict s submission (outcomes.No fault) (No refusal) = refusal_of fault ≡ Some refusal
TellsVerdict s submission (outcomes.No fault) (Yes after marked_after) = ⊥
TellsVerdict s submission (outcomes.Yes log plan net told) (Yes after marked_after) = TellsYes s submission (record { log = log; plan = plan; net = net; told = told }) after marked_after
TellsVerdict s submission (outcomes.Yes log plan net told) (No refusal) = ⊥

-- the outcome is the state's verdict on the submission
pub record IsVerdict {A : Type 0} (s : State) (submission : Submission) (outcome : Outcome A (List ℕ)) : Type 0 where
  pub verdict : Verdict
  pub judgement : IsJudgement s submission verdict
  pub told : TellsVerdict s submission outcome verdict

-- every state that agrees with the reads, and has the view's row of the client, has this verdict
abbrev pub ReadsDecide : {A : Type 0} → View A → Submission → List (Read × ReadAnswer) → Outcome A (List ℕ) → Type 0
ReadsDecide view submission reads outcome = (s : State) → AgreesWithReads s submission.client (row_of (clients_of view) submission.client) reads → IsVerdict s submission outcome

-- the same fault, or the same log and plan with a net of the same rows
abbrev pub IsSameFinding : {A : Type 0} → Outcome A (List ℕ) → Outcome A (List ℕ) → Type 0
IsSameFinding (outcomes.No fault) (outcomes.No other) = other ≡ fault
IsSameFinding (outcomes.Yes log plan net told) (outcomes.Yes l p n t) = (l ≡ log) × (p ≡ plan) × IsSameNet net n × (t ≡ told)
IsSameFinding (outcomes.No fault) (outcomes.Yes l p n t) = ⊥
IsSameFinding (outcomes.Yes log plan net told) (outcomes.No other) = ⊥

-- what the bytes decode to is right; a fault found in them is the verdict in all states that have the
-- client
abbrev pub IsReading : {A : Type 0} → Submission → Spelled A → Type 0
IsReading submission (readings.Yes log plan) = AreSpelled submission log plan
IsReading {A} submission (readings.No fault) = (s : State) (client : Client) → row_of s.clients submission.client ≡ Some client → IsVerdict {A = A} s submission (outcomes.No fault)

abbrev pub IsEarly : {A : Type 0} → Spelled A → Type 0
IsEarly (readings.Yes log plan) = Unit {0}
IsEarly (readings.No fault) = is_before_entries fault ≡ true

-- the outcome is the bad entry; or it says what is right of the net, and of the marks of each run with
-- these file sizes
abbrev pub OutcomeIsSettled : {A : Type 0} → CodeLog A (List ℕ) → CodePlan A (List ℕ) → List FileSize → Result (Net A (List ℕ)) CodeEntryFault → Outcome A (List ℕ) → Type 0
OutcomeIsSettled log plan sizes (Err fault) (outcomes.No refusal) = refusal ≡ faults.Entry fault
OutcomeIsSettled log plan sizes (Err fault) (outcomes.Yes l p n told) = ⊥
OutcomeIsSettled log plan sizes (Ok net) (outcomes.No (faults.Row fault)) = (fault ≢ rows.OutOfMemory) × TellsOfEachRun sizes log net plan (Err fault)
OutcomeIsSettled log plan sizes (Ok net) (outcomes.Yes l p n told) = (l ≡ log) × (p ≡ plan) × (n ≡ net) × TellsOfEachRun sizes log net plan (Ok told)
OutcomeIsSettled log plan sizes (Ok net) (outcomes.No faults.UnknownClient) = ⊥
OutcomeIsSettled log plan sizes (Ok net) (outcomes.No (faults.BadLog fault)) = ⊥
OutcomeIsSettled log plan sizes (Ok net) (outcomes.No faults.WrongClient) = ⊥
OutcomeIsSettled log plan sizes (Ok net) (outcomes.No (faults.BadPlan fault)) = ⊥
OutcomeIsSettled log plan sizes (Ok net) (outcomes.No (faults.Entry fault)) = ⊥
