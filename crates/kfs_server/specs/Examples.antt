-- Worked frames and replies, byte by byte, as docs/PROTOCOL.md has them.
use Rattle.std.specs.Prelude.{ℕ, false, List, [], ◌∷◌, ◌++◌, Some}
use Rattle.kfs_call.specs.Examples.{lease_call_bytes, leased_answer}
use Rattle.kfs_lease.specs.LeaseLists.{LeaseRow}
use Rattle.kfs_model.specs.Examples.Example.SpellingCases.{create_a_log_bytes, create_a_plan_bytes}
use Rattle.kfs_model.specs.Header.{Header, Directory}
use Rattle.kfs_model.specs.Lease.{WriteLease}
use Rattle.kfs_server.specs.Frames.Frame.{Frame}
use Rattle.kfs_server.specs.LookUps.Found.{LeasesAre, NamesAre, NodeIs, PlanIs, StateIs, held_bytes, listing_bytes}
use Rattle.kfs_server.specs.Replies.Reply.{Reply, Answered, Refused, Found, NotYours}

-- frame 1: client 7 asks for a write lease on the root
abbrev pub lease_frame : Frame
lease_frame = record { number = 1; from = 7; body = lease_call_bytes }

abbrev pub lease_frame_bytes : List ℕ
lease_frame_bytes = 0 ∷ 0 ∷ 0 ∷ 17 ∷ 0 ∷ 0 ∷ 0 ∷ 1 ∷ 0 ∷ 0 ∷ 0 ∷ 7 ∷ lease_call_bytes

-- frame 2: client 8 sends the same call
abbrev pub forged_frame : Frame
forged_frame = record { number = 2; from = 8; body = lease_call_bytes }

-- row 0: a lease on node 1
abbrev pub leased_reply : Reply
leased_reply = Answered leased_answer

abbrev pub leased_reply_bytes : List ℕ
leased_reply_bytes = 0 ∷ 0 ∷ 0 ∷ 10 ∷ 0 ∷ 0 ∷ 0 ∷ 1 ∷ 1 ∷ 0 ∷ 0 ∷ 0 ∷ 0 ∷ 4 ∷ 0 ∷ 0 ∷ 0 ∷ 1 ∷ []

abbrev pub forged_reply : Reply
forged_reply = Refused NotYours

abbrev pub forged_reply_bytes : List ℕ
forged_reply_bytes = 0 ∷ 0 ∷ 0 ∷ 6 ∷ 0 ∷ 0 ∷ 0 ∷ 2 ∷ 2 ∷ 5 ∷ 0 ∷ 0 ∷ 0 ∷ 0 ∷ []

-- frame 3: client 7 asks for node 1
abbrev pub node_frame : Frame
node_frame = record { number = 3; from = 7; body = 64 ∷ 0 ∷ 0 ∷ 0 ∷ 1 ∷ [] }

abbrev pub node_frame_bytes : List ℕ
node_frame_bytes = 0 ∷ 0 ∷ 0 ∷ 5 ∷ 0 ∷ 0 ∷ 0 ∷ 3 ∷ 0 ∷ 0 ∷ 0 ∷ 7 ∷ 64 ∷ 0 ∷ 0 ∷ 0 ∷ 1 ∷ []

-- the root of a new image
abbrev pub root_header : Header
root_header = record { kind = Directory; mode = 511; uid = 0; gid = 0; links = 1; size = 0 }

abbrev pub node_reply : Reply
node_reply = Found (NodeIs (Some root_header))

abbrev pub node_reply_bytes : List ℕ
node_reply_bytes =
    (0 ∷ 0 ∷ 0 ∷ 23 ∷ 0 ∷ 0 ∷ 0 ∷ 3 ∷ 3 ∷ 1 ∷ 2 ∷ 1 ∷ 255 ∷ [])
    ++ (0 ∷ 0 ∷ 0 ∷ 0 ∷ 0 ∷ 0 ∷ 0 ∷ 0 ∷ 0 ∷ 1 ∷ 0 ∷ 0 ∷ 0 ∷ 0 ∷ 0 ∷ 0 ∷ 0 ∷ 0 ∷ [])

-- frame 4: the front asks for the state
abbrev pub state_frame : Frame
state_frame = record { number = 4; from = 4294967295; body = 65 ∷ [] }

abbrev pub state_frame_bytes : List ℕ
state_frame_bytes = 0 ∷ 0 ∷ 0 ∷ 1 ∷ 0 ∷ 0 ∷ 0 ∷ 4 ∷ 255 ∷ 255 ∷ 255 ∷ 255 ∷ 65 ∷ []

-- moment 0, one row, and 4, 5 and 6 free places
abbrev pub state_reply : Reply
state_reply = Found (StateIs (record { moment = 0; rows = 1; first = 4; second = 5; third = 6 }))

abbrev pub state_reply_bytes : List ℕ
state_reply_bytes =
    (0 ∷ 0 ∷ 0 ∷ 26 ∷ 0 ∷ 0 ∷ 0 ∷ 4 ∷ 3 ∷ 2 ∷ 0 ∷ 0 ∷ 0 ∷ 0 ∷ 0 ∷ 0 ∷ 0 ∷ 0 ∷ 0 ∷ 0 ∷ 0 ∷ 1 ∷ [])
    ++ (0 ∷ 0 ∷ 0 ∷ 4 ∷ 0 ∷ 0 ∷ 0 ∷ 5 ∷ 0 ∷ 0 ∷ 0 ∷ 6 ∷ [])

-- frame 5: client 7 asks for the names of node 1, in 260 bytes
abbrev pub names_frame : Frame
names_frame = record { number = 5; from = 7; body = 68 ∷ 0 ∷ 0 ∷ 0 ∷ 1 ∷ 0 ∷ 0 ∷ 1 ∷ 4 ∷ [] }

abbrev pub names_frame_bytes : List ℕ
names_frame_bytes = 0 ∷ 0 ∷ 0 ∷ 9 ∷ 0 ∷ 0 ∷ 0 ∷ 5 ∷ 0 ∷ 0 ∷ 0 ∷ 7 ∷ 68 ∷ 0 ∷ 0 ∷ 0 ∷ 1 ∷ 0 ∷ 0 ∷ 1 ∷ 4 ∷ []

-- a leads to 3 and b to 5, and there are no more
abbrev pub names_reply : Reply
names_reply = Found (NamesAre false (listing_bytes ((97 ∷ [], 3) ∷ (98 ∷ [], 5) ∷ [])))

abbrev pub names_reply_bytes : List ℕ
names_reply_bytes =
    (0 ∷ 0 ∷ 0 ∷ 15 ∷ 0 ∷ 0 ∷ 0 ∷ 5 ∷ 3 ∷ 6 ∷ 0 ∷ [])
    ++ (0 ∷ 0 ∷ 0 ∷ 3 ∷ 1 ∷ 97 ∷ 0 ∷ 0 ∷ 0 ∷ 5 ∷ 1 ∷ 98 ∷ [])

-- frame 6: client 7 asks for its leases, in 65,536 bytes
abbrev pub leases_frame : Frame
leases_frame = record { number = 6; from = 7; body = 71 ∷ 0 ∷ 0 ∷ 0 ∷ 0 ∷ 0 ∷ 1 ∷ 0 ∷ 0 ∷ [] }

abbrev pub leases_frame_bytes : List ℕ
leases_frame_bytes = 0 ∷ 0 ∷ 0 ∷ 9 ∷ 0 ∷ 0 ∷ 0 ∷ 6 ∷ 0 ∷ 0 ∷ 0 ∷ 7 ∷ 71 ∷ 0 ∷ 0 ∷ 0 ∷ 0 ∷ 0 ∷ 1 ∷ 0 ∷ 0 ∷ []

-- the lease of frame 1, and there are no more
abbrev pub root_lease : LeaseRow
root_lease = record { number = 1; client = 7; kind = WriteLease; end = 100 }

abbrev pub leases_reply : Reply
leases_reply = Found (LeasesAre false (held_bytes root_lease))

abbrev pub leases_reply_bytes : List ℕ
leases_reply_bytes =
    (0 ∷ 0 ∷ 0 ∷ 16 ∷ 0 ∷ 0 ∷ 0 ∷ 6 ∷ 3 ∷ 9 ∷ 0 ∷ [])
    ++ (0 ∷ 0 ∷ 0 ∷ 1 ∷ 1 ∷ 0 ∷ 0 ∷ 0 ∷ 0 ∷ 0 ∷ 0 ∷ 0 ∷ 100 ∷ [])

-- frame 7: client 7 asks for the plan of its log, which creates a file
abbrev pub plan_frame : Frame
plan_frame = record { number = 7; from = 7; body = 72 ∷ create_a_log_bytes }

abbrev pub plan_frame_bytes : List ℕ
plan_frame_bytes = 0 ∷ 0 ∷ 0 ∷ 26 ∷ 0 ∷ 0 ∷ 0 ∷ 7 ∷ 0 ∷ 0 ∷ 0 ∷ 7 ∷ 72 ∷ create_a_log_bytes

abbrev pub plan_reply : Reply
plan_reply = Found (PlanIs create_a_plan_bytes)

abbrev pub plan_reply_bytes : List ℕ
plan_reply_bytes = 0 ∷ 0 ∷ 0 ∷ 51 ∷ 0 ∷ 0 ∷ 0 ∷ 7 ∷ 3 ∷ 10 ∷ 1 ∷ create_a_plan_bytes
