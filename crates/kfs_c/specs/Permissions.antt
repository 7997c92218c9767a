-- What kfs_may tells of a view's state.
use Rattle.std.specs.Prelude.{◌≡◌, ℕ, ◌==◌, Option, None, Some, Ok, Err, if◌then◌else◌}
use Rattle.std.specs.Option.{option_map}
use Rattle.kfs_model.specs.Judgement.{State}
use Rattle.kfs_mode.specs.Access.{Permission, permitted_by_state}
use Rattle.kfs_mode.specs.declared.access.Access.{Access}
use Rattle.kfs_mode.specs.declared.access.Access.TheVariants.{FindName, ListNames, ReadBytes}
use Rattle.kfs_mode.specs.declared.access.AccessFault.{AccessFault}
use Rattle.kfs_mode.specs.declared.access.AccessFault.TheVariants as faults
use Rattle.kfs_c.specs.declared.submission.numbers.FaultNumbers.{FaultNumbers}
use Rattle.kfs_c.specs.Submission.Told.{numbers}

-- what is asked for by this number, if by any
abbrev pub access_asked : ℕ → Option Access
access_asked number =
    if number == 1 then Some FindName
    else if number == 2 then Some ListNames
    else if number == 3 then Some ReadBytes
    else None

-- whether the state permits what is asked for, if it is something
abbrev pub permission_asked : State → (access client number : ℕ) → Option Permission
permission_asked seen access client number = option_map (λ asked. permitted_by_state seen asked client number) (access_asked access)

-- the state permits it
abbrev pub IsPermitted : (access client number : ℕ) → State → Type 0
IsPermitted access client number seen = permission_asked seen access client number ≡ Some (Ok tt)

abbrev pub access_fault_told : AccessFault → FaultNumbers
access_fault_told faults.UnknownClient = numbers 1 0 0 0
access_fault_told faults.NoSuchNode = numbers 2 0 0 0
access_fault_told faults.NotDirectory = numbers 3 0 0 0
access_fault_told faults.IsDirectory = numbers 4 0 0 0
access_fault_told faults.NoSearch = numbers 5 0 0 0
access_fault_told faults.NoRead = numbers 6 0 0 0

-- the state doesn't permit it, for the reason that is told
abbrev pub IsUnpermitted : (access client number : ℕ) → FaultNumbers → State → Type 0
IsUnpermitted access client number told seen =
    (why : AccessFault) × (permission_asked seen access client number ≡ Some (Err why)) × (told ≡ access_fault_told why)
