-- Verdicts that workers hold, and what they rest on.
use Rattle.std.specs.Prelude.{◌≡◌, ◌≢◌, ◌⊎◌, ◌↔◌, ℕ, List, [], length, IsFalse, map, Option, Some, Result, Ok, Err, All, Contains}
use Rattle.std.specs.List.{AllByRecursion}
use Rattle.kfs_model.specs.Access.{Client}
use Rattle.kfs_model.specs.Entry.{Log}
use Rattle.kfs_model.specs.Judgement.{State, Submission, Fault, Yes, No, IsJudgement, client_sight_of}
use Rattle.kfs_model.specs.Lease.{row_of}
use Rattle.kfs_model.specs.Looked.{looked_cells}
use Rattle.kfs_model.specs.Placement.{need}
use Rattle.kfs_model.specs.Run.{Mark}
use Rattle.kfs_model.specs.Sight.{Cell, Answer, answer}
use Rattle.kfs_model.specs.Soundness.{IsSound}
use Rattle.kfs_model.specs.Spelling.{LogAnswer}
use Rattle.kfs_model.specs.Tree.{Tree}
use Rattle.kfs_judge.specs.Views.{cell_of, answer_of}
use Rattle.kfs_plan.specs.Judged.{Judged}
use Rattle.kfs_plan.specs.Judging.{submission_of}
use Rattle.kfs_desk.specs.declared.history.answers.Reply.{Reply}
use Rattle.kfs_desk.specs.Docket.{is_rejudged}
use Rattle.kfs_desk.specs.Machine.{Desk, IsAnswered}

-- a held verdict: the submission, and what the verdict rests on, namely the client and the answers at
-- the cells that were read
pub record HeldVerdict : Type 0 where
  pub submission : Submission
  pub client : Option Client
  pub reads : List (Cell × Answer)

-- the verdict is up to date in the state: the state has its client, and gives its answers
pub record IsUpToDate (s : State) (verdict : HeldVerdict) : Type 0 where
  pub row : row_of s.clients verdict.submission.client ≡ verdict.client
  pub answers : AllByRecursion (λ read. answer (client_sight_of s verdict.submission.client) read.0 ≡ read.1) verdict.reads

-- the state's judgement on the submission is a Yes that needs this many blocks, or a No with this fault
abbrev pub ComesTo : State → Submission → Result ℕ Fault → Type 0
ComesTo s submission (Ok blocks) = (after : Tree ℕ) × (marks : Tree Mark) × IsJudgement s submission (Yes after marks) × (blocks ≡ need marks)
ComesTo s submission (Err fault) = IsJudgement s submission (No fault)

-- each read is at a cell that the client's log looks at
pub record AreLookedAt (s : State) (submission : Submission) (reads : List (Cell × Answer)) : Type 0 where
  pub client : Client
  pub row : row_of s.clients submission.client ≡ Some client
  pub log : Log
  pub spelled : LogAnswer submission.log (Ok log)
  pub owner : log.client ≡ submission.client
  pub among : All (λ read. Contains (looked_cells client (client_sight_of s submission.client) log.entries) read.0) reads

-- A verdict of the state on the submission. It is up to date there. It rests on enough: in each sound
-- state in which it is up to date, the judgement is the same. It rests on nothing that the log doesn't
-- look at.
pub record IsVerdictOn (s : State) (submission : Submission) (verdict : HeldVerdict) : Type 0 where
  pub submitted : verdict.submission ≡ submission
  pub current : IsUpToDate s verdict
  pub told : Result ℕ Fault
  pub enough : (t : State) → IsSound t.tree → IsUpToDate t verdict → ComesTo t submission told
  pub looked : (verdict.reads ≡ []) ⊎ AreLookedAt s submission verdict.reads

-- the verdict's submission is answered at a desk whose docket has room, and the desk goes on to the next; it
-- is revalidated exactly where the verdict isn't up to date
pub record LandsVerdict (desk : Desk) (verdict : HeldVerdict) (answer : Reply) (next : Desk) : Type 0 where
  pub room : length desk.docket ≢ desk.limit
  pub rejudged : IsFalse (is_rejudged answer) ↔ IsUpToDate desk.state verdict
  pub answered : IsAnswered desk verdict.submission (is_rejudged answer) answer next

-- a verdict of the code as a held verdict
abbrev pub verdict_of : {A : Type 0} → Judged A → HeldVerdict
verdict_of judged = record { submission = submission_of judged.submission; client = judged.client; reads = map (λ read. (cell_of read.0, answer_of read.1)) judged.reads }
