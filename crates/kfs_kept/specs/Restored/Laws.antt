-- A desk that is saved can be restored.
use Rattle.std.specs.Prelude.{◌≡◌, ℕ, List, None, Ok}
use Rattle.kfs_model.specs.Judgement.{State}
use Rattle.kfs_model.specs.Order.{IsInOrder}
use Rattle.kfs_model.specs.Spelling.{IsBytes}
use Rattle.kfs_lease.specs.LeaseLists.{HasLawfulLeases}
use Rattle.kfs_desk.specs.Machine.{IsShown}
use Rattle.kfs_desk.specs.Opening.{begin_fault}
use Rattle.kfs_call_desk.specs.Restore.Saved.{IsSaved}
use Rattle.kfs_call_desk.specs.Restore.Restored.{RestoreAnswer}

-- a state that a desk can begin with: in order, with lawful leases, shown by a well formed image, and its clients can
-- be beside each other
pub record CanBegin (s : State) : Type 0 where
  pub in_order : IsInOrder s
  pub lawful : HasLawfulLeases s
  pub shown : IsShown s
  pub beside : begin_fault s.clients ≡ None

-- the bytes of such a state come to that state
abbrev pub SavedIsRestored : Type 0
SavedIsRestored = (s : State) (bytes : List ℕ) → CanBegin s → IsSaved s bytes → RestoreAnswer bytes (Ok s)

-- a state has one encoding
abbrev pub SavedOnce : Type 0
SavedOnce = (s : State) (one other : List ℕ) → IsSaved s one → IsSaved s other → one ≡ other

-- and bytes are those of one state
abbrev pub SavedApart : Type 0
SavedApart = (s t : State) (bytes : List ℕ) → IsBytes bytes → CanBegin s → CanBegin t → IsSaved s bytes → IsSaved t bytes → s ≡ t
