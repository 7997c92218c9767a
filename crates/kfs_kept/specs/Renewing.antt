-- A checkpoint that is made in steps, between which calls go on.
use Rattle.std.specs.Prelude.{◌≡◌, ◌+◌, ◌-◌, ◌≤◌, ◌<◌, ◌^◌, ℕ, List, [], ◌++◌, length, take, min, nat_lt, if◌then◌else◌, Option, Some, None, Ok}
use Rattle.std.specs.List.{AllByRecursion}
use Rattle.kfs_model.specs.Judgement.{State}
use Rattle.kfs_journal.specs.Disk.{Files}
use Rattle.kfs_journal.specs.Draft.{HasDraft}
use Rattle.kfs_journal.specs.Format.{meaning, records_bytes}
use Rattle.kfs_journal.specs.declared.journal.Journal.{Journal}
use Rattle.kfs_call_desk.specs.Restore.Restored.{RestoreAnswer}
use Rattle.kfs_call_desk.specs.Restore.Saved.{IsSaved}
use Rattle.kfs_kept.specs.Calls.Leads.{GroupsLead}
use Rattle.kfs_kept.specs.declared.renewal.Renewal.{Renewal}

-- a state's bytes, and the records of the groups since
abbrev pub whole_of : {A : Type 0} → Renewal A → List ℕ
whole_of r = r.state.items ++ r.records.items

-- the next file has the first bytes of a state and of the records since; that state is restored, and the groups lead on from it
pub record IsUnderWay {A : Type 0} (files : Files) (journal : Journal) (r : Renewal A) (s : State) : Type 0 where
  pub first : State
  pub restored : RestoreAnswer r.state.items (Ok first)
  pub groups : List (List ℕ)
  pub records : r.records.items ≡ records_bytes groups
  pub fit : AllByRecursion (λ group. length group < 2 ^ 32) groups
  pub lead : GroupsLead first groups s
  pub written : HasDraft files journal r.draft (take r.done (whole_of r))
  pub within : r.done ≤ length (whole_of r)
  pub state_len : r.draft.state_len ≡ length r.state.items
  pub state_fits : length r.state.items < 2 ^ 64

-- how many bytes are written after one step more: at most so many of the state, or else of the records
abbrev pub reached : (of_state of_records done state records : ℕ) → ℕ
reached of_state of_records done state records = if nat_lt done state then min (done + of_state) state else min (done + of_records) (state + records)

-- with at most `most` bytes, and of the records those beside that have come since the last step
abbrev pub done_after : {A : Type 0} → ℕ → Renewal A → ℕ
done_after most r = reached most (most + (length r.records.items - r.known)) r.done (length r.state.items) (length r.records.items)

-- nothing of the state is written, and there is no record yet
abbrev pub IsBegun : {A : Type 0} → State → Renewal A → Type 0
IsBegun s r = IsSaved s r.state.items × (r.records.items ≡ []) × (r.done ≡ 0)

-- a step writes its bytes, and leaves what is to be written
pub record IsStep {A : Type 0} (most : ℕ) (old new : Renewal A) : Type 0 where
  pub state : new.state ≡ old.state
  pub records : new.records ≡ old.records
  pub done : new.done ≡ done_after most old
  pub known : new.known ≡ length old.records.items

-- a step that doesn't finish the checkpoint leaves bytes to write
abbrev pub GoesOn : {A : Type 0} → ℕ → Option (Renewal A) → Option (Renewal A) → Type 0
GoesOn most None new = ⊥
GoesOn most (Some old) None = ⊥
GoesOn most (Some old) (Some new) = IsStep most old new × (new.done < length (whole_of new))

-- the state and the groups of a checkpoint, and nothing else
abbrev pub KeepsAll : {A : Type 0} → Renewal A → Option (List ℕ × List (List ℕ)) → Type 0
KeepsAll r None = ⊥
KeepsAll r (Some kept) = (kept.0 ≡ r.state.items) × (records_bytes kept.1 ≡ r.records.items)

-- the step that writes the last bytes finishes it: the files keep its state and its groups. Where none is under way, nothing is left to do
abbrev pub Finishes : {A : Type 0} → ℕ → Option (Renewal A) → Files → Type 0
Finishes most None files = Unit {0}
Finishes most (Some r) files = (done_after most r ≡ length (whole_of r)) × KeepsAll r (meaning files)

-- calls leave what steps have done, or the checkpoint is given up
abbrev pub StaysOrEnds : {A : Type 0} → Option (Renewal A) → Option (Renewal A) → Type 0
StaysOrEnds None None = Unit {0}
StaysOrEnds None (Some new) = ⊥
StaysOrEnds (Some old) None = Unit {0}
StaysOrEnds (Some old) (Some new) = (new.state ≡ old.state) × (new.done ≡ old.done) × (new.known ≡ old.known)
