-- The trees and logs of the examples on sticky directories.
use Rattle.std.specs.Prelude.{ℕ, true, List, [], ◌∷◌}
use Rattle.kfs_model.specs.Header.{Kind, File}
use Rattle.kfs_model.specs.Entry.{Entry, Write, Unlink, Rename}
use Rattle.kfs_model.specs.PlanRow.{Plan}
use Rattle.kfs_model.specs.Tree.{Tree}
use Rattle.kfs_model.specs.Judgement.{State}
use Rattle.kfs_model.specs.Examples.Example.{client_7, name_f, name_g, name_t, name_x, name_row, node_row, gone, plan, log_piece, tree, root, directory, file, own_file, own_directory, named, state, leases}

-- directory 120 at "/t", of client 8 and with this mode. In it are file 121 ("f") of client 8, which all
-- may write, and file 6 ("g") of client 7
abbrev pub shared_tree : (mode : ℕ) → Tree ℕ
shared_tree mode = tree
    (root ∷ directory 120 mode 1001 1001 ∷ file 121 438 1001 1001 [] ∷ own_file 6 420 [] ∷ [])
    (named 1 name_t 120 ∷ named 120 name_f 121 ∷ named 120 name_g 6 ∷ [])

-- that directory with mode 0o1777, client 7 holding these nodes
abbrev pub sticky_held_by_7 : List ℕ → State
sticky_held_by_7 numbers = state (shared_tree 1023) (leases numbers [])

abbrev pub sticky_directory : State
sticky_directory = sticky_held_by_7 (1 ∷ 120 ∷ 121 ∷ 6 ∷ [])

-- with mode 0o777
abbrev pub plain_directory : State
plain_directory = state (shared_tree 511) (leases (120 ∷ 121 ∷ 6 ∷ []) [])

-- client 8 holds the directory and client 7's file
abbrev pub sticky_held_by_8 : State
sticky_held_by_8 = state (shared_tree 1023) (leases [] (120 ∷ 6 ∷ []))

-- client 7 with privilege
abbrev pub sticky_and_privileged : State
sticky_and_privileged = record sticky_directory { clients = record client_7 { privileged = true } ∷ [] }

-- file 121 has the names "f" and "g" in the directory
abbrev pub two_names_of_8 : State
two_names_of_8 = state
    (tree (root ∷ directory 120 1023 1001 1001 ∷ file 121 438 1001 1001 [] ∷ []) (named 1 name_t 120 ∷ named 120 name_f 121 ∷ named 120 name_g 121 ∷ []))
    (leases [] [])

-- client 7's directory 10 is "x" in the directory, and the root may not be written
abbrev pub below_a_closed_root : State
below_a_closed_root = state
    (tree (directory 1 365 0 0 ∷ directory 120 1023 1001 1001 ∷ file 121 438 1001 1001 [] ∷ own_directory 10 ∷ []) (named 1 name_t 120 ∷ named 120 name_f 121 ∷ named 120 name_x 10 ∷ []))
    (leases (120 ∷ 10 ∷ []) [])

abbrev pub unlink_of_8 : Kind → List Entry
unlink_of_8 kind = Unlink 120 name_f kind ∷ []

abbrev pub unlink_of_8_plan : Plan
unlink_of_8_plan = plan (name_row 120 name_f 0 ∷ []) (gone 121 ∷ []) []

abbrev pub unlink_of_7 : List Entry
unlink_of_7 = Unlink 120 name_g File ∷ []

abbrev pub unlink_of_7_plan : Plan
unlink_of_7_plan = plan (name_row 120 name_g 0 ∷ []) (gone 6 ∷ []) []

-- client 8's file to another name, to the root, and to the name "g"
abbrev pub move_of_8 : List Entry
move_of_8 = Rename 120 name_f 120 name_x ∷ []

abbrev pub move_out : List Entry
move_out = Rename 120 name_f 1 name_x ∷ []

abbrev pub move_nowhere : List Entry
move_nowhere = Rename 120 name_f 120 name_g ∷ []

-- client 7's file, and its directory, over client 8's file
abbrev pub move_over_8 : List Entry
move_over_8 = Rename 120 name_g 120 name_f ∷ []

abbrev pub directory_over_8 : List Entry
directory_over_8 = Rename 120 name_x 120 name_f ∷ []

abbrev pub write_of_8 : List Entry
write_of_8 = Write 121 0 (120 ∷ []) ∷ []

abbrev pub write_of_8_plan : Plan
write_of_8_plan = plan [] (node_row 121 File 438 1001 1 1 ∷ []) (log_piece 121 0 1 0 0 ∷ [])
