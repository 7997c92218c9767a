-- The code's refusals as those of the definitions.
use Rattle.std.specs.Prelude.{◌≡◌, Option, Some, None, IfSome, Err}
use Rattle.kfs_model.specs.Lease as model
use Rattle.kfs_lease.specs.declared.leases.LeaseFault.{LeaseFault}
use Rattle.kfs_lease.specs.declared.leases.LeaseFault.TheVariants.{UnknownClient, BadPath, NoSuchName, NotDirectory, NoSearch, Past, LeaseHeld, NoLeaseHeld, Backwards, NoSuchNode, NotAllowed, OutOfMemory}

-- the refusal, or none where memory ran out
abbrev pub fault_of : LeaseFault → Option model.LeaseFault
fault_of UnknownClient = Some model.UnknownClient
fault_of BadPath = Some model.BadPath
fault_of (NoSuchName component) = Some (model.NoSuchName component)
fault_of (NotDirectory component) = Some (model.NotDirectory component)
fault_of (NoSearch component) = Some (model.NoSearch component)
fault_of Past = Some model.Past
fault_of (LeaseHeld client) = Some (model.LeaseHeld client)
fault_of NoLeaseHeld = Some model.NoLeaseHeld
fault_of Backwards = Some model.Backwards
fault_of NoSuchNode = Some model.NoSuchNode
fault_of NotAllowed = Some model.NotAllowed
fault_of OutOfMemory = None

-- the outcome is this refusal, unless memory ran out, with these leases
abbrev pub Refuses : model.LeaseOutcome → LeaseFault → model.Leases → Type 0
Refuses outcome fault leases = IfSome (fault_of fault) (λ refusal. outcome ≡ (Err refusal, leases))
