-- The state of a desk, and why no desk is restored, as it is told.
use Rattle.std.proofs.Common.{◌≡◌, ℕ, List, Err, refl}
use Rattle.kfs_model.specs.Access.{Client}
use Rattle.kfs_model.specs.Judgement.{State}
use Rattle.kfs_model.specs.Lease.{Leases}
use Rattle.kfs_model.specs.Device.ShownTree.{DeviceImage}
use Rattle.kfs_desk.specs.Machine.{IsImageOf, state_at}
use Rattle.kfs_call_desk.specs.Restore.Restored.{RestoreAnswer}
use Rattle.kfs_call_desk.specs.Restore.Told.{OnRefused}
use Rattle.kfs_call_desk.specs.declared.restore.fault.RestoreFault.{RestoreFault}
use Rattle.kfs_c.specs.Opening.{IsRefusedAs}
use Rattle.kfs_c.specs.States.{IsUnrestored, unrestored_as}
use Rattle.kfs_c.proofs.Refusals.{refused_by}

pub unrestored : (bytes : List ℕ) (found : RestoreFault) → OnRefused (λ refusal. RestoreAnswer bytes (Err refusal)) found → IsRefusedAs (IsUnrestored bytes) (unrestored_as found)
unrestored bytes found is = refused_by (IsUnrestored bytes) (unrestored_as found) (λ told e. (found, is, e))

-- a desk's state is what its image, its clients and its leases show
pub state_shown : (s : State) (image : DeviceImage) (clients : List Client) (leases : Leases) → IsImageOf image s → clients ≡ s.clients → leases ≡ s.leases → state_at image clients leases ≡ s
state_shown s image clients leases is same held = λ i. record { clients = same i; sizes = is.sizes i; tree = is.tree i; leases = held i; placement = is.placement i }
