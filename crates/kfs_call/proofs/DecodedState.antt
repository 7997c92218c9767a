-- A state that was decoded, and why one was not, as the definitions say it.
use Rattle.std.proofs.Common.{◌≡◌, ℕ, List, ◌++◌, length, drop, map, Err, refl, sym, subst, ap, ◌∙◌, append_assoc}
use Rattle.std.specs.List.{flat_map}
use Rattle.kfs_model.specs.Spelling.{Begins, BeginsWithRows, LacksRow}
use Rattle.kfs_entry.specs.Codec.RowList.{AreRead}
use Rattle.kfs_entry.proofs.DecodedPlan.{part_stands}
use Rattle.kfs_entry.proofs.RowLaws.{stop_from}
use Rattle.kfs_call.specs.StateRows.{StateRows, StateHeader, IsStateHeader, state_header, state_header_of, IsStateRows, state_bytes, PartLacksRow, StateAnswer, IsClientRow, client_bytes, IsLeaseRow, lease_bytes}
use Rattle.kfs_call.specs.StateViews.{OnStateAnswer, RowsMissing, client_shown, lease_shown, state_shown}
use Rattle.kfs_call.specs.declared.state.ClientRow.{ClientRow}
use Rattle.kfs_call.specs.declared.state.LeaseRow.{LeaseRow}
use Rattle.kfs_call.specs.declared.state_fault.StateFault.{StateFault}
use Rattle.kfs_call.specs.declared.state_fault.StateFault.TheVariants as faults

-- the state of a header, the rows behind it, and the image
abbrev pub state_from : StateHeader → List ClientRow → List LeaseRow → List ℕ → StateRows
state_from h clients leases image = record { moment = h.moment; clients = map client_shown clients; leases = map lease_shown leases; image = image }

-- two parts that stand before an image are a state
state_is_spelled : (source a b image : List ℕ) (h : StateHeader) → IsStateHeader h → source ≡ state_header h ++ a
    → (clients : BeginsWithRows IsClientRow client_bytes h.clients a b) (leases : BeginsWithRows IsLeaseRow lease_bytes h.leases b image)
    → let s : StateRows = record { moment = h.moment; clients = clients.rows; leases = leases.rows; image = image } in IsStateRows s × (source ≡ state_bytes s)
state_is_spelled source a b image h fits front clients leases =
    let s : StateRows = record { moment = h.moment; clients = clients.rows; leases = leases.rows; image = image } in
    let same : state_header_of s ≡ h = ap (λ (n : ℕ × ℕ). record { moment = h.moment; clients = n.0; leases = n.1 }) (let e : (length clients.rows, length leases.rows) ≡ (h.clients, h.leases) = rw (clients.number, leases.number) refl in e) in
    let n = flat_map client_bytes clients.rows in
    let m = flat_map lease_bytes leases.rows in
    let whole : source ≡ state_header h ++ (n ++ (m ++ image)) = front ∙ ap (λ (l : List ℕ). state_header h ++ l) (clients.are.spelled ∙ ap (λ (l : List ℕ). n ++ l) leases.are.spelled) in
    let joined : state_header h ++ n ++ m ++ image ≡ state_header h ++ (n ++ (m ++ image)) = append_assoc (state_header h ++ n) m image ∙ append_assoc (state_header h) n (m ++ image) in (
      (subst IsStateHeader (sym same) fits, clients.are.fit, leases.are.fit),
      whole ∙ sym joined ∙ ap (λ (g : StateHeader). state_header g ++ n ++ m ++ image) (sym same),
    )

pub state_was_read : (source : List ℕ) (at b end : ℕ) (h : StateHeader) (clients : List ClientRow) (leases : List LeaseRow)
    → IsStateHeader h → source ≡ state_header h ++ drop at source
    → AreRead (λ r. IsClientRow (client_shown r)) (λ r. client_bytes (client_shown r)) source at h.clients clients b
    → AreRead (λ r. IsLeaseRow (lease_shown r)) (λ r. lease_bytes (lease_shown r)) source b h.leases leases end
    → IsStateRows (state_from h clients leases (drop end source)) × (source ≡ state_bytes (state_from h clients leases (drop end source)))
state_was_read source at b end h clients leases fits front clients_read leases_read =
    state_is_spelled source (drop at source) (drop b source) (drop end source) h fits front
    (part_stands client_shown IsClientRow client_bytes clients h.clients (drop at source) (drop b source) clients_read.number clients_read.are)
    (part_stands lease_shown IsLeaseRow lease_bytes leases h.leases (drop b source) (drop end source) leases_read.number leases_read.are)

-- a part whose row is missing: what stands before it makes the answer
pub rows_are_missing : {R V : Type 0} (A : Type 0) (view : R → V) (F : V → Type 0) (s : V → List ℕ) (source bytes : List ℕ) (h : StateHeader) (rows : List ℕ) (number count : ℕ) (fault : StateFault)
    → IsStateHeader h → source ≡ state_header h ++ rows → ((k : ℕ) → LacksRow F s count k bytes → PartLacksRow h number k rows)
    → RowsMissing (λ r. F (view r)) (λ r. s (view r)) (Begins F s) count number bytes fault → OnStateAnswer (state_shown {A = A}) (StateAnswer source) (Err fault)
rows_are_missing A view F s source bytes h rows number count (faults.BadRow part k) fits front stops missing =
    let stop : LacksRow F s count k bytes = stop_from view (λ r. F (view r)) F s (λ r f. f) count k bytes missing.1 in
    (h, rows, fits, front, subst (λ (n : ℕ). PartLacksRow h n k rows) (sym missing.0) (stops k stop))
rows_are_missing A view F s source bytes h rows number count faults.OutOfMemory fits front stops missing = tt
rows_are_missing A view F s source bytes h rows number count faults.BadHeader fits front stops missing = absurd missing
