-- Look-ups and calls are told apart by their first byte.
use Rattle.std.proofs.Common.{ℕ, ◌<◌, ◌≤◌, List, get_or, ap, arith}
use Rattle.kfs_call.specs.Call.{Call, Submit, Lease, Drop, Tick, Migrate, LeaseAt, call_bytes}
use Rattle.kfs_server.specs.LookUps.LookUp.{LookUp, Node, State, Checkpoint, Find, Names, Read, Places, Leases, Plan, IsNoLookUp, look_up_bytes}

abbrev first : List ℕ → ℕ
first bytes = get_or bytes 0 0

call_below : (call : Call) → first (call_bytes call) < 64
call_below (Submit client log plan) = omega arith
call_below (Lease client kind end path) = omega arith
call_below (Drop client number) = omega arith
call_below (Tick moment) = omega arith
call_below (Migrate moves) = omega arith
call_below (LeaseAt client kind end number) = omega arith

look_up_above : (look_up : LookUp) → 64 ≤ first (look_up_bytes look_up)
look_up_above (Node number) = omega arith
look_up_above State = omega arith
look_up_above Checkpoint = omega arith
look_up_above (Find directory name) = omega arith
look_up_above (Names directory limit after) = omega arith
look_up_above (Read file start count) = omega arith
look_up_above Places = omega arith
look_up_above (Leases first limit) = omega arith
look_up_above (Plan log) = omega arith

pub call_is_no_look_up : (call : Call) → IsNoLookUp (call_bytes call)
call_is_no_look_up call = λ look_up fits is. let same = ap first is in absurd (omega (arith, call_below call, look_up_above look_up, same))
