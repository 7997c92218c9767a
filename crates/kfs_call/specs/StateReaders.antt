-- The decoder of states as a function, for proofs.
use Rattle.std.specs.Prelude.{ℕ, List, [], ◌∷◌, Option, Some, None, Result, Ok, Err, nat_le, if◌then◌else◌}
use Rattle.kfs_model.specs.Access.{Client}
use Rattle.kfs_model.specs.Steps.{◌>>=◌}
use Rattle.kfs_model.proofs.Reading.{◌&◌, made, byte_read, number32_read, number64_read, mark_read}
use Rattle.kfs_call.specs.Readers.{rows_at, lease_kind_read}
use Rattle.kfs_call.specs.AnswerReaders.{flag_read}
use Rattle.kfs_call.specs.StateRows.{LeaseRow, StateHeader}

-- what was read, or none
abbrev pub some_read : {V : Type 0} → Result (V × List ℕ) ℕ → Option (V × List ℕ)
some_read (Ok x) = Some x
some_read (Err k) = None

unfoldable pub groups_read : List ℕ → Option (List ℕ × List ℕ)
groups_read bytes = byte_read bytes >>= λ n. if nat_le n.0 16 then some_read (rows_at number32_read 0 n.0 n.1) else None

unfoldable pub client_read : List ℕ → Option (Client × List ℕ)
client_read bytes =
    made (λ f. record { number = f.0.0.0.0.0.0; uid = f.0.0.0.0.0.1; gid = f.0.0.0.0.1; groups = f.1; privileged = f.0.0.0.1; first = f.0.0.1; last = f.0.1 })
    (number32_read & number32_read & number32_read & flag_read & number32_read & number32_read & groups_read) bytes

unfoldable pub lease_row_read : List ℕ → Option (LeaseRow × List ℕ)
lease_row_read bytes = made (λ f. record { node = f.0.0.0; client = f.0.0.1; kind = f.0.1; end = f.1 }) (number32_read & number32_read & lease_kind_read & number64_read) bytes

unfoldable pub state_header_read : List ℕ → Option (StateHeader × List ℕ)
state_header_read bytes = made (λ f. record { moment = f.0.0.1; clients = f.0.1; leases = f.1 }) (mark_read (75 ∷ 68 ∷ 83 ∷ 75 ∷ 1 ∷ []) & number64_read & number32_read & number32_read) bytes
