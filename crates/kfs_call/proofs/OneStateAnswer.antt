-- Bytes have one answer as a state: what it must be is a function of the bytes.
use Rattle.std.proofs.Common.{◌≡◌, ℕ, zero, suc, List, ◌++◌, Result, Ok, Err, refl, sym, ap, subst, ◌∙◌, append_assoc}
use Rattle.std.specs.List.{flat_map}
use Rattle.kfs_model.specs.Access.{Client}
use Rattle.kfs_model.specs.Spelling.{IsBytes, BeginsWithNo, BeginsWithRows}
use Rattle.kfs_model.proofs.RowsRead.{IsBytes-behind, with_option, rows_read, none_read, stand_is_read, stop_is_read}
use Rattle.kfs_call.specs.StateRows.{StateRows, LeaseRow, StateHeader, IsStateHeader, state_header, state_header_of, IsClientRow, client_bytes, IsLeaseRow, lease_bytes, IsStateRows, state_bytes, PartLacksRow, StateAnswer, StateFault, BadHeader, BadRow}
use Rattle.kfs_call.specs.StateReaders.{state_header_read, client_read, lease_row_read}
use Rattle.kfs_call.specs.StateViews.{OnStateAnswer}
use Rattle.kfs_call.specs.declared.state_fault.StateFault.{StateFault as CodeFault}
use Rattle.kfs_call.specs.declared.state_fault.StateFault.TheVariants as faults
use Rattle.kfs_call.proofs.StateLaws.{state_header_field, client_field, lease_row_field}

-- the rows of a part and what is read behind them, or how many came before the one that is missing
abbrev part_then : {V : Type 0} → ℕ → Result (List V × List ℕ) ℕ → (List V → List ℕ → Result StateRows StateFault) → Result StateRows StateFault
part_then part (Ok x) f = f x.0 x.1
part_then part (Err k) f = Err (BadRow part k)

abbrev leases_reading : StateHeader → List Client → List ℕ → Result StateRows StateFault
leases_reading h clients bytes = part_then 1 (rows_read lease_row_read h.leases bytes) (λ leases rest. Ok (record { moment = h.moment; clients = clients; leases = leases; image = rest }))

abbrev clients_reading : StateHeader → List ℕ → Result StateRows StateFault
clients_reading h bytes = part_then 0 (rows_read client_read h.clients bytes) (λ clients rest. leases_reading h clients rest)

-- the one answer to the bytes
unfoldable pub state_reading : List ℕ → Result StateRows StateFault
state_reading bytes = with_option (state_header_read bytes) (Err BadHeader) (λ x. clients_reading x.0 x.1)

behind_header : (h : StateHeader) (rest : List ℕ) → IsStateHeader h → state_reading (state_header h ++ rest) ≡ clients_reading h rest
unfolding state_reading
behind_header h rest fits = ap (λ o. with_option o (Err BadHeader) (λ x. clients_reading x.0 x.1)) (state_header_field.again h rest fits)

no_header : (bytes : List ℕ) → IsBytes bytes → BeginsWithNo IsStateHeader state_header bytes → state_reading bytes ≡ Err BadHeader
unfolding state_reading
no_header bytes fits never = ap (λ o. with_option o (Err BadHeader) (λ x. clients_reading x.0 x.1)) (none_read IsStateHeader state_header state_header_read state_header_field bytes fits never)

-- behind a part that stands, the next is read
behind_clients : (h : StateHeader) (bytes rest : List ℕ) (stand : BeginsWithRows IsClientRow client_bytes h.clients bytes rest) → clients_reading h bytes ≡ leases_reading h stand.rows rest
behind_clients h bytes rest stand = ap (λ x. part_then 0 x (λ clients rest. leases_reading h clients rest)) (stand_is_read IsClientRow client_bytes client_read client_field h.clients bytes rest stand)

abbrev with_image : StateHeader → List Client → List LeaseRow → List ℕ → Result StateRows StateFault
with_image h clients leases rest = Ok (record { moment = h.moment; clients = clients; leases = leases; image = rest })

behind_leases : (h : StateHeader) (clients : List Client) (bytes rest : List ℕ) (stand : BeginsWithRows IsLeaseRow lease_bytes h.leases bytes rest) → leases_reading h clients bytes ≡ with_image h clients stand.rows rest
behind_leases h clients bytes rest stand = ap (λ x. part_then 1 x (λ leases rest. with_image h clients leases rest)) (stand_is_read IsLeaseRow lease_bytes lease_row_read lease_row_field h.leases bytes rest stand)

row_is_missing : (h : StateHeader) (part k : ℕ) (bytes : List ℕ) → IsBytes bytes → PartLacksRow h part k bytes → clients_reading h bytes ≡ Err (BadRow part k)
row_is_missing h zero k bytes fits stop =
    ap (λ x. part_then 0 x (λ clients rest. leases_reading h clients rest)) (stop_is_read IsClientRow client_bytes client_read client_field h.clients k bytes fits stop)
row_is_missing h (suc zero) k bytes fits stop =
    let behind : IsBytes stop.0 = IsBytes-behind (flat_map client_bytes stop.1.rows) stop.0 (subst IsBytes stop.1.are.spelled fits) in
    behind_clients h bytes stop.0 stop.1
    ∙ ap (λ x. part_then 1 x (λ leases rest. with_image h stop.1.rows leases rest)) (stop_is_read IsLeaseRow lease_bytes lease_row_read lease_row_field h.leases k stop.0 behind stop.2)
row_is_missing h (suc (suc part)) k bytes fits stop = absurd stop

whole_state : (s : StateRows) → IsStateRows s → state_reading (state_bytes s) ≡ with_image (state_header_of s) s.clients s.leases s.image
whole_state s fits =
    let clients = flat_map client_bytes s.clients in
    let leases = flat_map lease_bytes s.leases in
    let regrouped : state_bytes s ≡ state_header (state_header_of s) ++ (clients ++ (leases ++ s.image)) =
    append_assoc (state_header (state_header_of s) ++ clients) leases s.image ∙ append_assoc (state_header (state_header_of s)) clients (leases ++ s.image) in
    ap state_reading regrouped
    ∙ behind_header (state_header_of s) (clients ++ (leases ++ s.image)) fits.0
    ∙ behind_clients (state_header_of s) (clients ++ (leases ++ s.image)) (leases ++ s.image) (record { rows = s.clients; number = refl; are = record { fit = fits.1; spelled = refl } })
    ∙ behind_leases (state_header_of s) s.clients (leases ++ s.image) s.image (record { rows = s.leases; number = refl; are = record { fit = fits.2; spelled = refl } })

state_is_read : (bytes : List ℕ) → IsBytes bytes → (answer : Result StateRows StateFault) → StateAnswer bytes answer → state_reading bytes ≡ answer
state_is_read bytes fits (Ok s) is = ap state_reading is.1 ∙ whole_state s is.0
state_is_read bytes fits (Err BadHeader) is = no_header bytes fits is
state_is_read bytes fits (Err (BadRow part k)) is =
    let behind : IsBytes is.1 = IsBytes-behind (state_header is.0) is.1 (subst IsBytes is.3 fits) in
    ap state_reading is.3 ∙ behind_header is.0 is.1 is.2 ∙ row_is_missing is.0 part k is.1 behind is.4

pub one_state_answer : (bytes : List ℕ) → IsBytes bytes → (a b : Result StateRows StateFault) → StateAnswer bytes a → StateAnswer bytes b → a ≡ b
one_state_answer bytes fits a b is this = sym (state_is_read bytes fits a is) ∙ state_is_read bytes fits b this

-- what holds of each answer holds of the code's
pub OnStateAnswer-weaker : {V M : Type 0} (view : V → M) (P Q : Result M StateFault → Type 0) → ((a : Result M StateFault) → P a → Q a) → (result : Result V CodeFault) → OnStateAnswer view P result → OnStateAnswer view Q result
OnStateAnswer-weaker view P Q f (Ok v) h = f (Ok (view v)) h
OnStateAnswer-weaker view P Q f (Err faults.BadHeader) h = f (Err BadHeader) h
OnStateAnswer-weaker view P Q f (Err (faults.BadRow part k)) h = f (Err (BadRow part k)) h
OnStateAnswer-weaker view P Q f (Err faults.OutOfMemory) h = tt
