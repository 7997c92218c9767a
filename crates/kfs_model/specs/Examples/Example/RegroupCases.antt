-- The clients, trees and logs of the examples on a node's group. Logs and plans are of version 2.
use Rattle.std.specs.Prelude.{◌≡◌, ℕ, true, false, List, [], ◌∷◌, Some, Ok}
use Rattle.kfs_model.specs.Header.{File}
use Rattle.kfs_model.specs.Check.{EntryContext}
use Rattle.kfs_model.specs.Effect.{effect}
use Rattle.kfs_model.specs.Entry.{Entry, Write, Regroup}
use Rattle.kfs_model.specs.PlanRow.{NodeRow, Plan}
use Rattle.kfs_model.specs.Run.{over_bytes}
use Rattle.kfs_model.specs.Sight.{sight}
use Rattle.kfs_model.specs.Tree.{Tree}
use Rattle.kfs_model.specs.Judgement.{State, Verdict, Reply, judged, reply_to}
use Rattle.kfs_model.specs.Examples.Example.{client_7, client_8, name_a, plan, log_piece, tree, root, file, named, state, leases, held_by_7, tree_after}
use Rattle.kfs_model.specs.Examples.Example.SpellingCases.{plan_in_2}

abbrev pub verdict_in_2 : State → (client : ℕ) → List Entry → Plan → Verdict
verdict_in_2 s client entries rows = judged s client (Ok (record { version = 2; client = client; entries = entries })) (Ok rows)

-- what a landing answers to the client's log of version 2, and the tree that the log leaves
abbrev pub RepliesIn2 : State → (client : ℕ) → List Entry → Plan → Reply → Type 0
RepliesIn2 s client entries rows reply = reply_to s (verdict_in_2 s client entries rows) ≡ reply

abbrev pub LeavesIn2 : State → (client : ℕ) → List Entry → Plan → Tree ℕ → Type 0
LeavesIn2 s client entries rows after = tree_after (verdict_in_2 s client entries rows) ≡ Some after

-- file 5 at "/a" of this owner and group, with mode 0o620
abbrev pub file_of : (uid gid : ℕ) → Tree ℕ
file_of uid gid = tree (root ∷ file 5 400 uid gid [] ∷ []) (named 1 name_a 5 ∷ [])

-- clients 7 and 8 are in group 50 beside their own; client 7 holds these nodes, client 8 those
abbrev pub members : Tree ℕ → List ℕ → List ℕ → State
members t of_7 of_8 = record (state t (leases of_7 of_8)) { clients = record client_7 { groups = 50 ∷ [] } ∷ record client_8 { groups = 50 ∷ [] } ∷ [] }

-- client 7's file and client 7 holding it, and a file of uid 1 and client 7 holding it
abbrev pub own_file_held : State
own_file_held = members (file_of 1000 1000) (5 ∷ []) []

abbrev pub file_of_1_held : State
file_of_1_held = members (file_of 1 1) (5 ∷ []) []

-- the same two, without a lease
abbrev pub own_file_unheld : State
own_file_unheld = members (file_of 1000 1000) [] []

abbrev pub file_of_1_unheld : State
file_of_1_unheld = members (file_of 1 1) [] []

-- a file of uid 1, client 7 holding it and with privilege
abbrev pub with_privilege : State
with_privilege = record (held_by_7 (file_of 1 1) (5 ∷ [])) { clients = record client_7 { privileged = true } ∷ [] }

-- client 7's file before a Regroup to group 50, and behind that entry of a log
abbrev pub ungrouped : Tree ℕ
ungrouped = file_of 1000 1000

abbrev pub grouped : Tree ℕ
grouped = effect over_bytes client_7 0 (Regroup 5 50) ungrouped

-- where client 8 is judged at this tree, had it every lease
abbrev pub point_of_8 : Tree ℕ → EntryContext
point_of_8 t = record {
  client = record client_8 { groups = 50 ∷ [] };
  before = record { sight = sight ungrouped; held = λ n. true };
  now = sight t;
  created = λ n. false;
}

abbrev pub one_byte : Entry
one_byte = Write 5 0 (120 ∷ [])

-- a file of client 7 and this group, client 8 holding it
abbrev pub held_by_8 : (gid : ℕ) → State
held_by_8 gid = members (file_of 1000 gid) [] (5 ∷ [])

abbrev pub regroup : (group : ℕ) → List Entry
regroup group = Regroup 5 group ∷ []

-- of no node
abbrev pub regroup_of_6 : List Entry
regroup_of_6 = Regroup 6 51 ∷ []

-- to group 50 and back
abbrev pub regroup_and_back : List Entry
regroup_and_back = Regroup 5 50 ∷ Regroup 5 1000 ∷ []

abbrev pub file_5 : (uid gid size : ℕ) → NodeRow
file_5 uid gid size = record { number = 5; now = Some (record { kind = File; mode = 400; uid = uid; gid = gid; links = 1; size = size }) }

abbrev pub regroup_plan : (uid gid : ℕ) → Plan
regroup_plan uid gid = plan_in_2 (plan [] (file_5 uid gid 0 ∷ []) [])

-- one byte into the file of group 50
abbrev pub write_plan : Plan
write_plan = plan_in_2 (plan [] (file_5 1000 50 1 ∷ []) (log_piece 5 0 1 0 0 ∷ []))
