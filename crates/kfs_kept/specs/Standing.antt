-- What the files of a kept desk stand for.
use Rattle.std.specs.Prelude.{◌≡◌, ◌⊎◌, ◌≤◌, ◌^◌, ℕ, length, List, Option, Some, None, Result, Ok}
use Rattle.kfs_model.specs.Judgement.{State}
use Rattle.kfs_journal.specs.Disk.{Files}
use Rattle.kfs_journal.specs.Format.{meaning}
use Rattle.kfs_call_desk.specs.Restore.Restored.{RestoreAnswer}
use Rattle.kfs_call_desk.specs.Restore.Saved.{IsSaved}
use Rattle.kfs_kept.specs.Calls.Leads.{GroupsLead}
use Rattle.kfs_kept.specs.Calls.Making.{Runs}
use Rattle.kfs_desk.specs.Machine.{Desk}
use Rattle.kfs_call_desk.specs.declared.made.Called.{Called}
use Rattle.kfs_call_desk.specs.declared.made.CallFault.{CallFault}

-- the bytes come to a state, from which the groups one after another lead to this one
abbrev pub LeadTo : Option (List ℕ × List (List ℕ)) → State → Type 0
LeadTo None s = ⊥
LeadTo (Some kept) s = (first : State) × RestoreAnswer kept.0 (Ok first) × GroupsLead first kept.1 s

-- the state's bytes are more than a journal takes
abbrev pub HasLongBytes : State → Type 0
HasLongBytes s = (bytes : List ℕ) × IsSaved s bytes × (2 ^ 60 ≤ length bytes)

-- the files stand for this state
abbrev pub StandFor : Files → State → Type 0
StandFor files s = LeadTo (meaning files) s

-- they stand for nothing yet, or for this state
abbrev pub StandForAtMost : State → Files → Type 0
StandForAtMost s files = (meaning files ≡ None) ⊎ StandFor files s

-- the files stand for the desk's state after all these calls, made in their order; a call that isn't answered
-- changes nothing
pub record StandForAfter (desk : Desk) (calls : List (List ℕ)) (files : Files) : Type 0 where
  pub answers : List (Result Called CallFault)
  pub last : Desk
  pub runs : Runs desk calls answers last
  pub stand : StandFor files last.state

-- before all the calls, or after all of them
abbrev pub StandForBeforeOrAfter : Desk → List (List ℕ) → Files → Type 0
StandForBeforeOrAfter desk calls files = StandFor files desk.state ⊎ StandForAfter desk calls files

-- files that stand for what these do
abbrev pub MeanTheSame : Files → Files → Type 0
MeanTheSame files c = meaning c ≡ meaning files
