-- The code's states, as the definitions have them, and why bytes are none, by the code's fault.
use Rattle.std.specs.Prelude.{◌≡◌, ℕ, List, map, Result, Ok, Err}
use Rattle.kfs_model.specs.Access.{Client}
use Rattle.kfs_model.specs.Spelling.{LacksRowBy}
use Rattle.kfs_lease.specs.Rows.Rows.{kind_of}
use Rattle.kfs_call.specs.StateRows as spelled
use Rattle.kfs_call.specs.StateRows.{BadHeader, BadRow}
use Rattle.kfs_call.specs.declared.state.ClientRow.{ClientRow}
use Rattle.kfs_call.specs.declared.state.LeaseRow.{LeaseRow}
use Rattle.kfs_call.specs.declared.state.StateRows.{StateRows}
use Rattle.kfs_call.specs.declared.codec.state_header.StateHeader.{StateHeader}
use Rattle.kfs_call.specs.declared.state_fault.StateFault.{StateFault}
use Rattle.kfs_call.specs.declared.state_fault.StateFault.TheVariants as faults

abbrev pub client_shown : ClientRow → Client
client_shown c = record { number = c.number; uid = c.uid; gid = c.gid; groups = c.groups.items; privileged = c.privileged; first = c.first; last = c.last }

abbrev pub lease_shown : LeaseRow → spelled.LeaseRow
lease_shown l = record { node = l.node; client = l.client; kind = kind_of l.kind; end = l.end }

abbrev pub header_shown : StateHeader → spelled.StateHeader
header_shown h = record { moment = h.moment; clients = h.clients; leases = h.leases }

abbrev pub state_shown : {A : Type 0} → StateRows A → spelled.StateRows
state_shown s = record { moment = s.moment; clients = map client_shown s.clients; leases = map lease_shown s.leases; image = s.image.now }

-- P holds of the answer, unless it is that memory ran out
abbrev pub OnStateAnswer : {V M : Type 0} → (V → M) → (Result M spelled.StateFault → Type 0) → Result V StateFault → Type 0
OnStateAnswer view P (Ok v) = P (Ok (view v))
OnStateAnswer view P (Err faults.BadHeader) = P (Err BadHeader)
OnStateAnswer view P (Err (faults.BadRow part k)) = P (Err (BadRow part k))
OnStateAnswer view P (Err faults.OutOfMemory) = Unit {0}

-- the fault is right: the rows of this part stop at the index that it names, or memory ran out
abbrev pub RowsMissing : {R : Type 0} → (R → Type 0) → (R → List ℕ) → (List ℕ → Type 0) → (count number : ℕ) → List ℕ → StateFault → Type 0
RowsMissing fits spelling begins count number bytes (faults.BadRow part k) = (part ≡ number) × LacksRowBy fits spelling begins count k bytes
RowsMissing fits spelling begins count number bytes faults.OutOfMemory = Unit {0}
RowsMissing fits spelling begins count number bytes faults.BadHeader = ⊥
