-- Worked examples: a call, an answer and a state, byte by byte, as docs/FORMATS.md has them.
use Rattle.std.specs.Prelude.{ℕ, false, List, [], ◌∷◌}
use Rattle.kfs_model.specs.Access.{Client}
use Rattle.kfs_model.specs.Lease.{WriteLease}
use Rattle.kfs_call.specs.Call.{Call, Lease, LeaseAt, Submit, Migrate}
use Rattle.kfs_call.specs.AnswerRow.{AnswerRow, Leased, No}
use Rattle.kfs_call.specs.StateRows.{StateRows, LeaseRow}

-- client 7 asks for a write lease on the root up to moment 100
abbrev pub lease_call : Call
lease_call = Lease 7 WriteLease 100 (47 ∷ [])

abbrev pub lease_call_bytes : List ℕ
lease_call_bytes = 2 ∷ 0 ∷ 0 ∷ 0 ∷ 7 ∷ 1 ∷ 0 ∷ 0 ∷ 0 ∷ 0 ∷ 0 ∷ 0 ∷ 0 ∷ 100 ∷ 0 ∷ 1 ∷ 47 ∷ []

-- client 7 hands in a log of one byte and a plan of two; neither need be one
abbrev pub submit_call : Call
submit_call = Submit 7 (9 ∷ []) (8 ∷ 7 ∷ [])

abbrev pub submit_call_bytes : List ℕ
submit_call_bytes = 1 ∷ 0 ∷ 0 ∷ 0 ∷ 7 ∷ 0 ∷ 0 ∷ 0 ∷ 1 ∷ 9 ∷ 0 ∷ 0 ∷ 0 ∷ 2 ∷ 8 ∷ 7 ∷ []

-- block 1 of file 5 moves to place 258 of tier 2
abbrev pub migrate_call : Call
migrate_call = Migrate (record { number = 5; block = 1; target = record { tier = 2; place = 258 } } ∷ [])

abbrev pub migrate_call_bytes : List ℕ
migrate_call_bytes = 5 ∷ 0 ∷ 1 ∷ 0 ∷ 0 ∷ 0 ∷ 5 ∷ 0 ∷ 0 ∷ 0 ∷ 1 ∷ 2 ∷ 0 ∷ 0 ∷ 1 ∷ 2 ∷ []

-- client 7 asks for a write lease on node 258 up to moment 100, without a path
abbrev pub lease_at_call : Call
lease_at_call = LeaseAt 7 WriteLease 100 258

abbrev pub lease_at_call_bytes : List ℕ
lease_at_call_bytes = 6 ∷ 0 ∷ 0 ∷ 0 ∷ 7 ∷ 1 ∷ 0 ∷ 0 ∷ 0 ∷ 0 ∷ 0 ∷ 0 ∷ 0 ∷ 100 ∷ 0 ∷ 0 ∷ 1 ∷ 2 ∷ []

-- row 0: a lease on node 1
abbrev pub leased_answer : AnswerRow
leased_answer = record { position = 0; told = Leased 1 }

abbrev pub leased_answer_bytes : List ℕ
leased_answer_bytes = 0 ∷ 0 ∷ 0 ∷ 0 ∷ 4 ∷ 0 ∷ 0 ∷ 0 ∷ 1 ∷ []

-- row 1: the first entry lacks a lease on node 9
abbrev pub no_answer : AnswerRow
no_answer = record { position = 1; told = No false (record { code = 5; reason = 15; index = 0; detail = 9 }) }

abbrev pub no_answer_bytes : List ℕ
no_answer_bytes = 0 ∷ 0 ∷ 0 ∷ 1 ∷ 2 ∷ 0 ∷ 5 ∷ 15 ∷ 0 ∷ 0 ∷ 0 ∷ 0 ∷ 0 ∷ 0 ∷ 0 ∷ 0 ∷ 0 ∷ 0 ∷ 0 ∷ 9 ∷ []

abbrev pub client_7 : Client
client_7 = record { number = 7; uid = 1000; gid = 1000; groups = []; privileged = false; first = 2; last = 99 }

abbrev pub lease_of_7 : LeaseRow
lease_of_7 = record { node = 1; client = 7; kind = WriteLease; end = 100 }

-- moment 5, client 7 with its lease, and an image of these bytes
abbrev pub state_of_7 : List ℕ → StateRows
state_of_7 image = record { moment = 5; clients = client_7 ∷ []; leases = lease_of_7 ∷ []; image = image }

abbrev pub state_of_7_bytes : List ℕ → List ℕ
state_of_7_bytes image =
    75 ∷ 68 ∷ 83 ∷ 75 ∷ 1 ∷ 0 ∷ 0 ∷ 0 ∷ 0 ∷ 0 ∷ 0 ∷ 0 ∷ 5 ∷ 0 ∷ 0 ∷ 0 ∷ 1 ∷ 0 ∷ 0 ∷ 0 ∷ 1
    ∷ 0 ∷ 0 ∷ 0 ∷ 7 ∷ 0 ∷ 0 ∷ 3 ∷ 232 ∷ 0 ∷ 0 ∷ 3 ∷ 232 ∷ 0 ∷ 0 ∷ 0 ∷ 0 ∷ 2 ∷ 0 ∷ 0 ∷ 0 ∷ 99 ∷ 0
    ∷ 0 ∷ 0 ∷ 0 ∷ 1 ∷ 0 ∷ 0 ∷ 0 ∷ 7 ∷ 1 ∷ 0 ∷ 0 ∷ 0 ∷ 0 ∷ 0 ∷ 0 ∷ 0 ∷ 100 ∷ image
