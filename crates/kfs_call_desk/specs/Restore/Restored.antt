-- What the bytes of a state come to: a state, or the first thing that is wrong with them.
use Rattle.std.specs.Prelude.{◌≡◌, ℕ, nat_lt, List, length, map, Option, Some, None, option_map, Result, Ok, Err, if◌then◌else◌}
use Rattle.kfs_model.specs.Access.{Client, is_grant}
use Rattle.kfs_model.specs.FirstAnswer.{first_answer}
use Rattle.kfs_model.specs.Judgement.{State}
use Rattle.kfs_model.specs.Limits.{group_limit}
use Rattle.kfs_model.specs.Header.{Header}
use Rattle.kfs_model.specs.Lease.{Leases}
use Rattle.kfs_model.specs.Table.{Table, numbers, get}
use Rattle.kfs_model.specs.Device.Finding.{Finding, finding_of}
use Rattle.kfs_model.specs.Device.RawImage.{RawImage, heads_of, image_of}
use Rattle.kfs_model.specs.Device.Spelling.{ImageSpellingFault, ImageAnswer}
use Rattle.kfs_lease.specs.LeaseLists.{LeaseRowFault, fault_of_rows, listed_leases}
use Rattle.kfs_call.specs.StateRows as spelled
use Rattle.kfs_call.specs.StateRows.{StateRows, StateFault, StateAnswer}
use Rattle.kfs_desk.specs.Machine.{state_at}
use Rattle.kfs_desk.specs.Opening.{begin_fault}
use Rattle.kfs_desk.specs.declared.history.answers.BeginFault.{BeginFault}
use Rattle.kfs_mode.specs.declared.client.ClientFault.{ClientFault}
use Rattle.kfs_mode.specs.declared.client.ClientFault.TheVariants.{TooManyGroups, BadGrant}
use Rattle.kfs_call_desk.specs.Restore.Saved.{lease_of_row}

-- why rows are those of no desk
pub data Refusal : Type 0 where
  BrokenRule : Finding → Refusal
  BadClient : (index : ℕ) → ClientFault → Refusal
  BadLease : LeaseRowFault → Refusal
  BadClients : BeginFault → Refusal

-- why bytes aren't those of a desk's state
pub data RestoreFault : Type 0 where
  BadState : StateFault → RestoreFault
  BadImage : ImageSpellingFault → RestoreFault
  Refused : Refusal → RestoreFault

-- why no client has this row, which comes behind these
abbrev pub client_refusal : (earlier : List Client) → Client → Option Refusal
client_refusal earlier client =
    if nat_lt group_limit (length client.groups) then Some (BadClient (length earlier) TooManyGroups)
    else if is_grant client.first client.last then None
    else Some (BadClient (length earlier) BadGrant)

-- the refusal, or what comes where there is none
abbrev pub unless : Option Refusal → Result State RestoreFault → Result State RestoreFault
unless None rest = rest
unless (Some refusal) rest = Err (Refused refusal)

-- the rules of the image, in this order the clients alone, the leases, and the clients beside each other
abbrev pub rule_refusal : RawImage → Option Refusal
rule_refusal raw = option_map BrokenRule (finding_of raw)

abbrev pub clients_refusal : List Client → Option Refusal
clients_refusal clients = first_answer client_refusal clients

abbrev pub leases_refusal : List Client → Table numbers Header → (moment : ℕ) → List spelled.LeaseRow → Option Refusal
leases_refusal clients heads moment rows = option_map BadLease (fault_of_rows clients (get heads) moment (map lease_of_row rows))

abbrev pub begin_refusal : List Client → Option Refusal
begin_refusal clients = option_map BadClients (begin_fault clients)

-- the leases of the rows
abbrev pub leases_at : (moment : ℕ) → List spelled.LeaseRow → Leases
leases_at moment rows = listed_leases moment (map lease_of_row rows)

-- the state that the rows show
abbrev pub shown_state : StateRows → RawImage → State
shown_state s raw = state_at (image_of raw) s.clients (leases_at s.moment s.leases)

-- what the rows come to
abbrev pub verdict : StateRows → RawImage → Result State RestoreFault
verdict s raw = unless (rule_refusal raw) (unless (clients_refusal s.clients) (unless (leases_refusal s.clients (heads_of raw) s.moment s.leases) (unless (begin_refusal s.clients) (Ok (shown_state s raw)))))

-- what follows from the answer to the image's bytes
abbrev pub FollowsImage : StateRows → Result RawImage ImageSpellingFault → Result State RestoreFault → Type 0
FollowsImage s (Ok raw) answer = answer ≡ verdict s raw
FollowsImage s (Err fault) answer = answer ≡ Err (BadImage fault)

-- what follows from the answer to the bytes
abbrev pub FollowsState : Result StateRows StateFault → Result State RestoreFault → Type 0
FollowsState (Ok s) answer = (image : Result RawImage ImageSpellingFault) × ImageAnswer s.image image × FollowsImage s image answer
FollowsState (Err fault) answer = answer ≡ Err (BadState fault)

-- what the bytes come to
abbrev pub RestoreAnswer : List ℕ → Result State RestoreFault → Type 0
RestoreAnswer bytes answer = (read : Result StateRows StateFault) × StateAnswer bytes read × FollowsState read answer
