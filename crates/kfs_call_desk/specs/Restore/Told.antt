-- The code's faults, as the definitions have them.
use Rattle.std.specs.Prelude.{◌≡◌, ◌⊎◌, ℕ, List, Option, Some, None, length, option_map, Result, Ok, Err}
use Rattle.kfs_model.specs.Judgement.{State}
use Rattle.kfs_model.specs.Device.Spelling as images
use Rattle.kfs_image.specs.declared.codec.fault.ImageFault.{ImageFault}
use Rattle.kfs_image.specs.declared.codec.fault.ImageFault.TheVariants as image_faults
use Rattle.kfs_call.specs.StateRows as states
use Rattle.kfs_call.specs.declared.state_fault.StateFault.{StateFault}
use Rattle.kfs_call.specs.declared.state_fault.StateFault.TheVariants as state_faults
use Rattle.kfs_lease.specs.ShownLists.{row_fault_of}
use Rattle.kfs_shape.specs.Findings.{finding_shown}
use Rattle.kfs_shape.specs.declared.fault.ShapeFault.{ShapeFault}
use Rattle.kfs_shape.specs.declared.fault.ShapeFault.TheVariants as shape_faults
use Rattle.kfs_desk.specs.Machine.{Desk, opened_at}
use Rattle.kfs_model.specs.Access.{Client}
use Rattle.kfs_mode.specs.declared.client.ClientFault.{ClientFault}
use Rattle.kfs_call_desk.specs.Restore.Restored as model
use Rattle.kfs_call_desk.specs.Restore.Restored.{Refusal, Refused, client_refusal}
use Rattle.kfs_call_desk.specs.declared.restore.fault.RestoreFault.{RestoreFault}
use Rattle.kfs_call_desk.specs.declared.restore.fault.RestoreFault.TheVariants.{BadState, BadImage, BrokenRule, BadClient, BadLease, BadClients, OutOfMemory}

-- what the fault of a state's bytes is told as, that of an image's, and that of its rows
abbrev pub state_told : StateFault → RestoreFault
state_told state_faults.BadHeader = BadState state_faults.BadHeader
state_told (state_faults.BadRow part k) = BadState (state_faults.BadRow part k)
state_told state_faults.OutOfMemory = OutOfMemory

abbrev pub image_told : ImageFault → RestoreFault
image_told image_faults.BadImageHeader = BadImage image_faults.BadImageHeader
image_told (image_faults.BadImageRow k) = BadImage (image_faults.BadImageRow k)
image_told image_faults.ImageTrailing = BadImage image_faults.ImageTrailing
image_told image_faults.OutOfMemory = OutOfMemory

abbrev pub rule_told : ShapeFault → RestoreFault
rule_told (shape_faults.Found finding) = BrokenRule finding
rule_told shape_faults.OutOfMemory = OutOfMemory

-- why bytes are no state and no image; none where memory was refused
abbrev pub state_fault_of : StateFault → Option states.StateFault
state_fault_of state_faults.BadHeader = Some states.BadHeader
state_fault_of (state_faults.BadRow part k) = Some (states.BadRow part k)
state_fault_of state_faults.OutOfMemory = None

abbrev pub image_fault_of : ImageFault → Option images.ImageSpellingFault
image_fault_of image_faults.BadImageHeader = Some images.BadImageHeader
image_fault_of (image_faults.BadImageRow k) = Some (images.BadImageRow k)
image_fault_of image_faults.ImageTrailing = Some images.ImageTrailing
image_fault_of image_faults.OutOfMemory = None

-- the fault; none where memory was refused
abbrev pub fault_of : RestoreFault → Option model.RestoreFault
fault_of (BadState fault) = option_map model.BadState (state_fault_of fault)
fault_of (BadImage fault) = option_map model.BadImage (image_fault_of fault)
fault_of (BrokenRule finding) = Some (Refused (model.BrokenRule (finding_shown finding)))
fault_of (BadClient index fault) = Some (Refused (model.BadClient index fault))
fault_of (BadLease fault) = option_map (λ refusal. Refused (model.BadLease refusal)) (row_fault_of fault)
fault_of (BadClients fault) = Some (Refused (model.BadClients fault))
fault_of OutOfMemory = None

-- P holds of the fault, unless it is that memory was refused
abbrev pub OnRefused : (model.RestoreFault → Type 0) → RestoreFault → Type 0
OnRefused P fault = (fault ≡ OutOfMemory) ⊎ ((refusal : model.RestoreFault) × (fault_of fault ≡ Some refusal) × P refusal)

-- P holds of the answer, unless it is that memory was refused; a desk is one that was just begun with its state
abbrev pub OnRestored : (limit : ℕ) → (Result State model.RestoreFault → Type 0) → Result Desk RestoreFault → Type 0
OnRestored limit P (Ok desk) = (desk ≡ opened_at desk.state limit) × P (Ok desk.state)
OnRestored limit P (Err fault) = OnRefused (λ refusal. P (Err refusal)) fault

-- the fault is this refusal, unless it is that memory was refused
abbrev pub IsRefusedFor : Option Refusal → RestoreFault → Type 0
IsRefusedFor refusal fault = OnRefused (λ given. option_map Refused refusal ≡ Some given) fault

-- behind any others, the client's row is refused for what is answered here
abbrev pub IsRefusedAs : {T : Type 0} → Result T ClientFault → Client → Type 0
IsRefusedAs (Ok client) row = (earlier : List Client) → client_refusal earlier row ≡ None
IsRefusedAs (Err fault) row = (earlier : List Client) → client_refusal earlier row ≡ Some (model.BadClient (length earlier) fault)
