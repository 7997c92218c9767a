-- States of a desk as bytes over the boundary.
use Rattle.std.specs.Prelude.{◌≡◌, ℕ, List, Ok, Err}
use Rattle.kfs_call.specs.declared.state_fault.StateFault.{StateFault}
use Rattle.kfs_call.specs.declared.state_fault.StateFault.TheVariants as states
use Rattle.kfs_desk.specs.Machine.{Desk, opened_at}
use Rattle.kfs_lease.specs.declared.leases.listed.LeaseRowFault.{LeaseRowFault}
use Rattle.kfs_lease.specs.declared.leases.listed.LeaseRowFault.TheVariants as leases
use Rattle.kfs_call_desk.specs.Restore.Restored.{RestoreAnswer}
use Rattle.kfs_call_desk.specs.Restore.Saved.{IsSaved}
use Rattle.kfs_call_desk.specs.Restore.Told.{OnRefused}
use Rattle.kfs_call_desk.specs.declared.restore.fault.RestoreFault.{RestoreFault}
use Rattle.kfs_call_desk.specs.declared.restore.fault.RestoreFault.TheVariants as faults
use Rattle.kfs_shape.specs.declared.fault.ShapeFault.TheVariants as shapes
use Rattle.kfs_c.specs.Opening.{broken_as, misfit_told, unbegun_as, unread_as}
use Rattle.kfs_c.specs.Reading.{AreLonger, BeginsWith}
use Rattle.kfs_c.specs.Submission.Told.{numbers}
use Rattle.kfs_c.specs.declared.submission.numbers.FaultNumbers.{FaultNumbers}
use Rattle.kfs_c.specs.declared.opening.Unopened.{Unopened}
use Rattle.kfs_c.specs.declared.opening.Unopened.TheVariants.{NoMemory, Refused}

-- the buffer begins with the bytes of the desk's state
abbrev pub IsStateGiven : (old new : List ℕ) → (count : ℕ) → Desk → Type 0
IsStateGiven old new count desk = (bytes : List ℕ) × IsSaved desk.state bytes × BeginsWith bytes old new count

-- the bytes of the desk's state are longer than the buffer
abbrev pub IsStateLonger : (buffer : List ℕ) → (count : ℕ) → Desk → Type 0
IsStateLonger buffer count desk = (bytes : List ℕ) × IsSaved desk.state bytes × AreLonger bytes buffer count

-- the desk was just begun with the state that the bytes come to
abbrev pub IsRestored : (bytes : List ℕ) → (limit : ℕ) → Desk → Type 0
IsRestored bytes limit desk = (desk ≡ opened_at desk.state limit) × RestoreAnswer bytes (Ok desk.state)

-- ---- why no desk is restored

abbrev pub stateless_as : StateFault → Unopened
stateless_as states.BadHeader = Refused (numbers 6 1 0 0)
stateless_as (states.BadRow part k) = Refused (numbers 6 2 k part)
stateless_as states.OutOfMemory = NoMemory

abbrev pub unleased_as : LeaseRowFault → Unopened
unleased_as (leases.UnknownClient index) = Refused (numbers 7 1 index 0)
unleased_as (leases.NoSuchNode index) = Refused (numbers 7 2 index 0)
unleased_as (leases.Past index) = Refused (numbers 7 3 index 0)
unleased_as (leases.NotAscending index) = Refused (numbers 7 4 index 0)
unleased_as (leases.LeaseHeld index) = Refused (numbers 7 5 index 0)
unleased_as leases.OutOfMemory = NoMemory

abbrev pub unrestored_as : RestoreFault → Unopened
unrestored_as (faults.BadState fault) = stateless_as fault
unrestored_as (faults.BadImage fault) = unread_as fault
unrestored_as (faults.BrokenRule finding) = broken_as (shapes.Found finding)
unrestored_as (faults.BadClient index fault) = Refused (misfit_told index fault)
unrestored_as (faults.BadLease fault) = unleased_as fault
unrestored_as (faults.BadClients fault) = unbegun_as fault
unrestored_as faults.OutOfMemory = NoMemory

-- the bytes come to no desk, for the reason that is told
abbrev pub IsUnrestored : (bytes : List ℕ) → FaultNumbers → Type 0
IsUnrestored bytes told = (why : RestoreFault) × OnRefused (λ refusal. RestoreAnswer bytes (Err refusal)) why × (unrestored_as why ≡ Refused told)
