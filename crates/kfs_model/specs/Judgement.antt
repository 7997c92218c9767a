-- The judgement of a submission against a state, in its order, and the reply to it.
use Rattle.std.specs.Prelude.{◌≡◌, ℕ, ◌==◌, nat_lt, Bool, true, false, List, length, filter, Some, None, Result, Ok, Err, if◌then◌else◌}
use native.Mathlib.Decide.{ℕ_discrete}
use Rattle.kfs_model.specs.Access.{Client}
use Rattle.kfs_model.specs.Tree.{Tree}
use Rattle.kfs_model.specs.Sight.{ClientSight, client_sight}
use Rattle.kfs_model.specs.Lease.{Leases, holds, row_of}
use Rattle.kfs_model.specs.Entry.{Entry, Log}
use Rattle.kfs_model.specs.PlanRow.{Plan}
use Rattle.kfs_model.specs.Run.{Mark, EntryFault, EntryFault-equality, run, over_bytes, over_marks, marked}
use Rattle.kfs_model.specs.FirstWrong.{RowFault, RowFault-discrete, first_wrong_row}
use Rattle.kfs_model.specs.Placement.{Placement, need, in_first_tier, is_free, below}
pub use Rattle.kfs_model.specs.Placement.{TierSizes}
use Rattle.kfs_model.specs.Spelling.{SpellingFault, SpellingFault-discrete, LogAnswer, PlanAnswer}

pub record State : Type 0 where
  pub clients : List Client
  pub sizes : TierSizes
  pub tree : Tree ℕ
  pub leases : Leases
  pub placement : Placement

-- why a submission is refused
pub data Fault : Type 0 where
  ClientUnknown ClientWrong : Fault
  BadLog BadPlan : (fault : SpellingFault) → Fault
  AtEntry : (fault : EntryFault) → Fault
  AtRow : (fault : RowFault) → Fault
  deriving Discrete as Fault-discrete

-- the outcome: refused with a fault, or accepted with the tree afterwards, as bytes and as marks
pub data Verdict : Type 0 where
  Yes : (after : Tree ℕ) (marks : Tree Mark) → Verdict
  No : (fault : Fault) → Verdict

-- what the client with this number sees of the state
abbrev pub client_sight_of : State → (number : ℕ) → ClientSight
client_sight_of s number = client_sight s.tree (holds s.leases number)

-- ---- the judgement, in order: client, log's bytes, log's client, plan's bytes, entries, plan's rows

abbrev pub judged_rows : State → Plan → Tree ℕ → Tree Mark → Verdict
judged_rows s plan after marked_after = elim (first_wrong_row s.tree marked_after plan) [ None ↦ Yes after marked_after | Some fault ↦ No (AtRow fault) ]

abbrev pub judged_run : State → Plan → Result (Tree ℕ) EntryFault → Result (Tree Mark) EntryFault → Verdict
judged_run s plan (Err fault) marked_run = No (AtEntry fault)
judged_run s plan (Ok after) (Err fault) = No (AtEntry fault)
judged_run s plan (Ok after) (Ok marked_after) = judged_rows s plan after marked_after

abbrev pub judged_entries : State → Client → List Entry → Plan → Verdict
judged_entries s client entries plan = judged_run s plan (run over_bytes client (client_sight_of s client.number) s.tree entries) (run over_marks client (client_sight_of s client.number) (marked s.tree) entries)

abbrev pub judged_plan : State → Client → Log → Result Plan SpellingFault → Verdict
judged_plan s client log (Err fault) = No (BadPlan fault)
judged_plan s client log (Ok plan) = judged_entries s client log.entries plan

abbrev pub judged_log : State → Client → Result Log SpellingFault → Result Plan SpellingFault → Verdict
judged_log s client (Err fault) plan = No (BadLog fault)
judged_log s client (Ok log) plan = if log.client == client.number then judged_plan s client log plan else No ClientWrong

unfoldable pub judged : State → (client : ℕ) → Result Log SpellingFault → Result Plan SpellingFault → Verdict
judged s number log plan = elim (row_of s.clients number) [ None ↦ No ClientUnknown | Some client ↦ judged_log s client log plan ]

pub record Submission : Type 0 where
  pub client : ℕ
  pub log : List ℕ
  pub plan : List ℕ

-- what the bytes of a submission decode to: a log and a plan, or why one doesn't decode
pub record Reading : Type 0 where
  pub log : Result Log SpellingFault
  pub plan : Result Plan SpellingFault

pub record IsReadAs (submission : Submission) (reading : Reading) : Type 0 where
  pub log : LogAnswer submission.log reading.log
  pub plan : PlanAnswer submission.plan reading.plan

abbrev pub verdict_on : State → (client : ℕ) → Reading → Verdict
verdict_on s client reading = judged s client reading.log reading.plan

-- the verdict is right for these bytes
pub record IsJudgement (s : State) (submission : Submission) (verdict : Verdict) : Type 0 where
  pub reading : Reading
  pub read : IsReadAs submission reading
  pub judgement : verdict ≡ verdict_on s submission.client reading

-- ---- the reply of a landing

pub data Reply : Type 0 where
  Accepted : (need : ℕ) → Reply
  NoRoom : (need free : ℕ) → Reply
  Refused : (fault : Fault) → Reply
  deriving Discrete as Reply-discrete

-- whether two replies are the same
abbrev pub Reply-equality : Discrete Reply
Reply-equality = Reply-discrete ℕ_discrete (Fault-discrete (SpellingFault-discrete ℕ_discrete) EntryFault-equality (RowFault-discrete ℕ_discrete))

abbrev pub is_yes : {P : Type 0} → Dec P → Bool
is_yes (yes p) = true
is_yes (no n) = false

-- the places of tier 0 that hold no block
unfoldable pub free_places : State → List ℕ
free_places s = filter (λ place. is_free s.placement (in_first_tier place)) (below s.sizes.first)

unfoldable pub reply_to : State → Verdict → Reply
reply_to s (No fault) = Refused fault
reply_to s (Yes after marked_after) =
    if nat_lt (length (free_places s)) (need marked_after) then NoRoom (need marked_after) (length (free_places s)) else Accepted (need marked_after)
