-- The worked examples: who and what they begin with, and how their outcome is said.
-- Client 7 has uid and gid 1000 and may give the numbers 2 to 99, client 8 uid and gid 1001 and 100 to 199;
-- neither has further groups or privilege. Their leases are for writing and end at 100; the moment is 0.
pub mod AccessCases
pub mod FileCases
pub mod LeaseCases
pub mod MigrationCases
pub mod NameCases
pub mod PlacementCases
pub mod RegroupCases
pub mod SpellingCases
pub mod StickyCases
use Rattle.std.specs.Prelude.{◌≡◌, ℕ, Bool, true, false, List, [], ◌∷◌, ◌++◌, map, Option, Some, None, Result, Ok, Err}
use Rattle.kfs_model.specs.Header.{Kind, File, Directory}
use Rattle.kfs_model.specs.Access.{Client}
use Rattle.kfs_model.specs.Table.{Order, Table, numbers, pairs, empty, insert, get, retain, remove, mapped, united}
use Rattle.kfs_model.specs.Tree.{Tree, Node, Body, FileBody}
use Rattle.kfs_model.specs.Sight.{climb_meets, climbed}
use Rattle.kfs_model.specs.Lease.{Lease, Leases, WriteLease, granted, granted_by_number, dropped, live_at, on_those, ticked, without_gone, walked}
use Rattle.kfs_model.specs.Spelling.{is_name}
use Rattle.kfs_model.specs.Check.{Reason, fault, checks_of, first_failing}
use Rattle.kfs_model.specs.Entry.{Entry, Log}
use Rattle.kfs_model.specs.PlanRow.{NameRow, NodeRow, Piece, Source, Plan, Zero, Payload}
use Rattle.kfs_model.specs.Effect.{overwritten, resized, without_unnamed, change_of}
use Rattle.kfs_model.specs.Run.{EntryFault, run_from}
use Rattle.kfs_model.specs.Plan.{mark_at}
use Rattle.kfs_model.specs.FirstWrong.{changed_bytes, is_wrong, first_wrong_row}
use Rattle.kfs_model.specs.Placement.{written_blocks, cleared_blocks}
use Rattle.kfs_model.specs.Judgement.{State, Verdict, Yes, No, Fault, AtEntry, Reply, Refused, judged, free_places, reply_to}
use Rattle.kfs_model.specs.Machine.{outcome_of, next}

-- an example's proof computes: it unfolds this, and with it all that a judgement uses
unfoldable pub computing : Unit {0}
unfolding get insert retain remove mapped united climb_meets climbed granted granted_by_number dropped live_at on_those ticked without_gone walked is_name fault checks_of first_failing overwritten resized without_unnamed change_of run_from changed_bytes is_wrong first_wrong_row written_blocks cleared_blocks judged free_places reply_to outcome_of next
computing = tt

-- a table of some entries, in any order
abbrev pub table : {K X : Type 0} {R : Order K} → List (K × X) → Table R X
table [] = empty
table (e ∷ es) = insert (table es) e.0 e.1

abbrev pub client_7 : Client
client_7 = record { number = 7; uid = 1000; gid = 1000; groups = []; privileged = false; first = 2; last = 99 }

abbrev pub client_8 : Client
client_8 = record { number = 8; uid = 1001; gid = 1001; groups = []; privileged = false; first = 100; last = 199 }

-- ---- nodes and names

abbrev pub file : (number mode uid gid : ℕ) → List ℕ → ℕ × Node ℕ
file number mode uid gid content = (number, record { mode = mode; uid = uid; gid = gid; body = FileBody content })

abbrev pub directory : (number mode uid gid : ℕ) → ℕ × Node ℕ
directory number mode uid gid = (number, record { mode = mode; uid = uid; gid = gid; body = Body.DirectoryBody })

-- of client 7, with this mode and content; of client 7, with mode 0o777
abbrev pub own_file : (number mode : ℕ) → List ℕ → ℕ × Node ℕ
own_file number mode content = file number mode 1000 1000 content

abbrev pub own_directory : (number : ℕ) → ℕ × Node ℕ
own_directory number = directory number 511 1000 1000

-- mode 0o777, uid and gid 0
abbrev pub root : ℕ × Node ℕ
root = directory 1 511 0 0

abbrev pub named : (directory : ℕ) (name : List ℕ) (number : ℕ) → (ℕ × List ℕ) × ℕ
named directory name number = ((directory, name), number)

-- one letter each
abbrev pub name_a : List ℕ
name_a = 97 ∷ []

abbrev pub name_b : List ℕ
name_b = 98 ∷ []

abbrev pub name_c : List ℕ
name_c = 99 ∷ []

abbrev pub name_d : List ℕ
name_d = 100 ∷ []

abbrev pub name_f : List ℕ
name_f = 102 ∷ []

abbrev pub name_g : List ℕ
name_g = 103 ∷ []

abbrev pub name_p : List ℕ
name_p = 112 ∷ []

abbrev pub name_q : List ℕ
name_q = 113 ∷ []

abbrev pub name_r : List ℕ
name_r = 114 ∷ []

abbrev pub name_t : List ℕ
name_t = 116 ∷ []

abbrev pub name_x : List ℕ
name_x = 120 ∷ []

abbrev pub name_y : List ℕ
name_y = 121 ∷ []

abbrev pub name_z : List ℕ
name_z = 122 ∷ []

abbrev pub tree : List (ℕ × Node ℕ) → List ((ℕ × List ℕ) × ℕ) → Tree ℕ
tree nodes names = record { nodes = table nodes; names = table names }

-- file 5 at "/a", of client 7, with mode 0o644 and this content
abbrev pub with_file : List ℕ → Tree ℕ
with_file content = tree (root ∷ own_file 5 420 content ∷ []) (named 1 name_a 5 ∷ [])

-- ---- leases and states

abbrev pub write_lease : (client : ℕ) → ℕ → (ℕ × ℕ) × Lease
write_lease client number = ((client, number), record { kind = WriteLease; end = 100 })

-- leases of client 7 on these nodes, of client 8 on those
abbrev pub leases : List ℕ → List ℕ → Leases
leases of_7 of_8 = record { rows = table (map (write_lease 7) of_7 ++ map (write_lease 8) of_8); moment = 0 }

-- both clients, three tiers of eight blocks, nothing placed
abbrev pub state : Tree ℕ → Leases → State
state t held = record { clients = client_7 ∷ client_8 ∷ []; sizes = record { first = 8; second = 8; third = 8 }; tree = t; leases = held; placement = empty }

-- client 7 alone holds leases, on these nodes
abbrev pub held_by_7 : Tree ℕ → List ℕ → State
held_by_7 t numbers = state t (leases numbers [])

-- ---- plans

abbrev pub name_row : (directory : ℕ) (name : List ℕ) (number : ℕ) → NameRow
name_row directory name number = record { directory = directory; name = name; number = number }

abbrev pub gone : (number : ℕ) → NodeRow
gone number = record { number = number; now = None }

abbrev pub node_row : (number : ℕ) → Kind → (mode uid links size : ℕ) → NodeRow
node_row number kind mode id links size = record { number = number; now = Some (record { kind = kind; mode = mode; uid = id; gid = id; links = links; size = size }) }

-- of client 7, with mode 0o644 and one name
abbrev pub file_row : (number size : ℕ) → NodeRow
file_row number size = node_row number File 420 1000 1 size

abbrev pub zero_piece : (number start length : ℕ) → Piece
zero_piece number start length = record { number = number; start = start; length = length; source = Zero }

abbrev pub log_piece : (number start length entry place : ℕ) → Piece
log_piece number start length entry place = record { number = number; start = start; length = length; source = Payload entry place }

-- of version 1
abbrev pub plan : List NameRow → List NodeRow → List Piece → Plan
plan names nodes pieces = record { version = 1; names = names; nodes = nodes; pieces = pieces }

abbrev pub no_plan : Plan
no_plan = plan [] [] []

-- ---- outcomes

abbrev pub verdict : State → (client : ℕ) → List Entry → Plan → Verdict
verdict s client entries rows = judged s client (Ok (record { version = 1; client = client; entries = entries })) (Ok rows)

-- what a landing answers to the client's log and plan
abbrev pub Replies : State → (client : ℕ) → List Entry → Plan → Reply → Type 0
Replies s client entries rows reply = reply_to s (verdict s client entries rows) ≡ reply

-- an entry's number and the reason, whatever the plan is
abbrev pub refused_at : ℕ → Reason → Reply
refused_at entry reason = Refused (AtEntry (record { entry = entry; reason = reason }))

abbrev pub tree_after : Verdict → Option (Tree ℕ)
tree_after (Yes after marks) = Some after
tree_after (No fault) = None

-- the tree that the client's log leaves
abbrev pub Leaves : State → (client : ℕ) → List Entry → Plan → Tree ℕ → Type 0
Leaves s client entries rows after = tree_after (verdict s client entries rows) ≡ Some after
