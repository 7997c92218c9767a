-- The code's calls, as the definitions have them.
use Rattle.kfs_lease.specs.Rows.Rows.{kind_of}
use Rattle.kfs_call.specs.Call as spelled
use Rattle.kfs_call.specs.declared.call.Call.{Call}
use Rattle.kfs_call.specs.declared.call.Call.TheVariants as calls

abbrev pub call_shown : {A : Type 0} → Call A → spelled.Call
call_shown (calls.Submit client log plan) = spelled.Submit client log.now plan.now
call_shown (calls.Lease client kind end path) = spelled.Lease client (kind_of kind) end path.now
call_shown (calls.Drop client number) = spelled.Drop client number
call_shown (calls.Tick moment) = spelled.Tick moment
call_shown (calls.Migrate moves) = spelled.Migrate moves
call_shown (calls.LeaseAt client kind end number) = spelled.LeaseAt client (kind_of kind) end number
