-- The trees, logs and plans of the examples on names.
use Rattle.std.specs.Prelude.{ℕ, List, [], ◌∷◌}
use Rattle.kfs_model.specs.Header.{Kind, File, Directory}
use Rattle.kfs_model.specs.Entry.{Entry, Create, Link, Unlink, Rename}
use Rattle.kfs_model.specs.PlanRow.{Plan}
use Rattle.kfs_model.specs.Tree.{Tree}
use Rattle.kfs_model.specs.Judgement.{State}
use Rattle.kfs_model.specs.Machine.{leases_after}
use Rattle.kfs_model.specs.Examples.Example.{name_a, name_b, name_c, name_d, name_f, name_p, name_q, name_x, name_y, name_z, name_row, file_row, gone, plan, tree, root, directory, own_file, own_directory, named, held_by_7, state, leases}

abbrev pub two_names : State
two_names = held_by_7 (tree (directory 1 365 0 0 ∷ own_file 5 420 [] ∷ []) (named 1 name_a 5 ∷ named 1 name_b 5 ∷ [])) []

abbrev pub rename_to_own_name : List Entry
rename_to_own_name = Rename 1 name_a 1 name_b ∷ []

-- ---- two moves

abbrev pub directories : (where_10 where_11 : ℕ) → Tree ℕ
directories where_10 where_11 = tree
    (root ∷ own_directory 10 ∷ own_directory 11 ∷ own_directory 12 ∷ own_directory 13 ∷ own_directory 20 ∷ own_directory 21 ∷ [])
    (named 1 name_p 20 ∷ named 1 name_q 21 ∷ named where_10 name_x 10 ∷ named where_11 name_y 11 ∷ named 11 name_c 12 ∷ named 10 name_d 13 ∷ [])

abbrev pub with_directories : (where_10 where_11 : ℕ) → State
with_directories where_10 where_11 = state (directories where_10 where_11) (leases (20 ∷ 12 ∷ 10 ∷ []) (21 ∷ 13 ∷ 11 ∷ []))

abbrev pub four_directories : State
four_directories = with_directories 20 21

abbrev pub moved_by_7 : State
moved_by_7 = with_directories 12 21

abbrev pub moved_by_8 : State
moved_by_8 = with_directories 20 13

abbrev pub move_7 : List Entry
move_7 = Rename 20 name_x 12 name_x ∷ []

abbrev pub move_8 : List Entry
move_8 = Rename 21 name_y 13 name_y ∷ []

abbrev pub plan_7 : Plan
plan_7 = plan (name_row 12 name_x 10 ∷ name_row 20 name_x 0 ∷ []) [] []

abbrev pub plan_8 : Plan
plan_8 = plan (name_row 13 name_y 11 ∷ name_row 21 name_y 0 ∷ []) [] []

-- ---- a number used again

abbrev pub removed_file : State
removed_file = held_by_7 (tree (root ∷ own_file 9 420 [] ∷ []) (named 1 name_f 9 ∷ [])) (1 ∷ 9 ∷ [])

abbrev pub unlink_f : List Entry
unlink_f = Unlink 1 name_f File ∷ []

abbrev pub unlink_plan : Plan
unlink_plan = plan (name_row 1 name_f 0 ∷ []) (gone 9 ∷ []) []

abbrev pub after_removal : State
after_removal = record removed_file { tree = tree (root ∷ []) []; leases = leases_after removed_file (tree (root ∷ []) []) }

abbrev pub create_f : List Entry
create_f = Create 1 name_f 9 File 420 ∷ []

abbrev pub create_plan : Plan
create_plan = plan (name_row 1 name_f 9 ∷ []) (file_row 9 0 ∷ []) []

abbrev pub after_creation : State
after_creation = record after_removal { tree = removed_file.tree; leases = leases_after after_removal removed_file.tree }

-- ---- directories and files

abbrev pub folder : State
folder = held_by_7 (tree (root ∷ own_file 5 511 [] ∷ own_directory 10 ∷ own_directory 20 ∷ []) (named 1 name_p 20 ∷ named 20 name_x 10 ∷ named 1 name_a 5 ∷ [])) (1 ∷ 20 ∷ 10 ∷ 5 ∷ [])

abbrev pub unlink_p : Kind → List Entry
unlink_p kind = Unlink 1 name_p kind ∷ []

abbrev pub link_directory : List Entry
link_directory = Link 20 1 name_z ∷ []

abbrev pub move_below : List Entry
move_below = Rename 1 name_p 10 name_q ∷ []

abbrev pub file_over_directory : List Entry
file_over_directory = Rename 1 name_a 1 name_p ∷ []

abbrev pub directory_over_file : List Entry
directory_over_file = Rename 1 name_p 1 name_a ∷ []

abbrev pub empty_folder : List Entry
empty_folder = Unlink 20 name_x Directory ∷ Unlink 1 name_p Directory ∷ []

abbrev pub empty_folder_plan : Plan
empty_folder_plan = plan (name_row 1 name_p 0 ∷ name_row 20 name_x 0 ∷ []) (gone 10 ∷ gone 20 ∷ []) []

abbrev pub emptied : Tree ℕ
emptied = tree (root ∷ own_file 5 511 [] ∷ []) (named 1 name_a 5 ∷ [])
