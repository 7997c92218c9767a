-- The clients, trees and logs of the examples on permissions and limits.
use Rattle.std.specs.Prelude.{ℕ, ◌==◌, true, false, List, [], ◌∷◌, Some}
use Rattle.kfs_model.specs.Header.{File}
use Rattle.kfs_model.specs.Entry.{Entry, Create, Write, Link, Chmod}
use Rattle.kfs_model.specs.PlanRow.{Plan}
use Rattle.kfs_model.specs.Sight.{Sight, sight}
use Rattle.kfs_model.specs.Check.{EntryContext}
use Rattle.kfs_model.specs.Judgement.{State}
use Rattle.kfs_model.specs.Examples.Example.{client_7, name_a, name_z, log_piece, plan, tree, root, file, named, held_by_7, with_file}

-- file 5 at "/a" of this owner and with this mode, client 7 holding it
abbrev pub with_mode : (mode uid gid : ℕ) → State
with_mode mode uid gid = held_by_7 (tree (root ∷ file 5 mode uid gid [] ∷ []) (named 1 name_a 5 ∷ [])) (5 ∷ [])

-- client 7 with this group beside its own
abbrev pub in_group : ℕ → State → State
in_group group s = record s { clients = record client_7 { groups = group ∷ [] } ∷ [] }

-- one byte into a file of uid 1 and gid 50 with mode 0o602
abbrev pub one_byte_plan : Plan
one_byte_plan = plan [] (record { number = 5; now = Some (record { kind = File; mode = 386; uid = 1; gid = 50; links = 1; size = 1 }) } ∷ []) (log_piece 5 0 1 0 0 ∷ [])

-- without write permission, and then a write
abbrev pub locked_first : List Entry
locked_first = Chmod 5 256 ∷ Write 5 0 (120 ∷ []) ∷ []

-- file 5 at "/a", client 7 holding it and the root
abbrev pub both_held : State
both_held = held_by_7 (with_file []) (1 ∷ 5 ∷ [])

abbrev pub create_z : (number : ℕ) → List Entry
create_z number = Create 1 name_z number File 420 ∷ []

abbrev pub chmod_root : List Entry
chmod_root = Chmod 1 448 ∷ []

-- as client 7 would see the tree of `both_held`, had file 5 as many names as a file may have
abbrev pub many_names : Sight
many_names = record {
  head = λ n. elim (n == 5) [ true ↦ Some (record { kind = File; mode = 420; uid = 1000; gid = 1000; links = 1024; size = 0 }) | false ↦ (sight both_held.tree).head n ];
  name = (sight both_held.tree).name;
  count = (sight both_held.tree).count;
  parent = (sight both_held.tree).parent;
}

abbrev pub with_many_names : EntryContext
with_many_names = record { client = client_7; before = record { sight = many_names; held = λ n. true }; now = many_names; created = λ n. false }

abbrev pub one_more_name : Entry
one_more_name = Link 5 1 name_z
