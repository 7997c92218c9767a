-- The logs and plans of the examples on files.
use Rattle.std.specs.Prelude.{ℕ, List, [], ◌∷◌, replicate}
use Rattle.kfs_model.specs.Header.{File}
use Rattle.kfs_model.specs.Entry.{Entry, Create, Write, Truncate, Unlink}
use Rattle.kfs_model.specs.PlanRow.{Piece, Plan}
use Rattle.kfs_model.specs.Tree.{Tree}
use Rattle.kfs_model.specs.Judgement.{State}
use Rattle.kfs_model.specs.Examples.Example.{name_a, name_b, name_r, name_row, node_row, file_row, plan, zero_piece, log_piece, tree, root, own_file, named, held_by_7, with_file}

-- the root alone, client 7 holding it
abbrev pub empty_state : State
empty_state = held_by_7 (tree (root ∷ []) []) (1 ∷ [])

-- file 5 at "/a" with this content, client 7 holding it
abbrev pub file_state : List ℕ → State
file_state content = held_by_7 (with_file content) (5 ∷ [])

abbrev pub create_a : List Entry
create_a = Create 1 name_a 5 File 420 ∷ []

abbrev pub create_a_plan : (number : ℕ) → Plan
create_a_plan number = plan (name_row 1 name_a number ∷ []) (file_row 5 0 ∷ []) []

-- ABCDEFGHIJ
abbrev pub letters : List ℕ
letters = 65 ∷ 66 ∷ 67 ∷ 68 ∷ 69 ∷ 70 ∷ 71 ∷ 72 ∷ 73 ∷ 74 ∷ []

-- "xy" at 2, "QRS" at 3, cut to 4 bytes, lengthened to 8 bytes, "Z" at 12
abbrev pub edits : List Entry
edits = Write 5 2 (120 ∷ 121 ∷ []) ∷ Write 5 3 (81 ∷ 82 ∷ 83 ∷ []) ∷ Truncate 5 4 ∷ Truncate 5 8 ∷ Write 5 12 (90 ∷ []) ∷ []

-- ABxQ, eight zero bytes, Z
abbrev pub edited : List ℕ
edited = 65 ∷ 66 ∷ 120 ∷ 81 ∷ 0 ∷ 0 ∷ 0 ∷ 0 ∷ 0 ∷ 0 ∷ 0 ∷ 0 ∷ 90 ∷ []

abbrev pub first_piece : (length : ℕ) → Piece
first_piece length = log_piece 5 2 length 0 0

abbrev pub last_piece : Piece
last_piece = log_piece 5 12 1 4 0

abbrev pub edits_plan : Piece → List Piece → Plan
edits_plan first last = plan [] (file_row 5 13 ∷ []) (first ∷ log_piece 5 3 1 1 0 ∷ zero_piece 5 4 8 ∷ last)

abbrev pub edits_plan_without_node : Plan
edits_plan_without_node = plan [] [] (first_piece 1 ∷ log_piece 5 3 1 1 0 ∷ zero_piece 5 4 8 ∷ last_piece ∷ [])

-- without the piece of byte 3
abbrev pub edits_plan_with_gap : Plan
edits_plan_with_gap = plan [] (file_row 5 13 ∷ []) (first_piece 1 ∷ zero_piece 5 4 8 ∷ last_piece ∷ [])

-- a byte of the zero piece once more
abbrev pub zero_again : List Piece
zero_again = zero_piece 5 11 1 ∷ last_piece ∷ []

-- no bytes behind the end
abbrev pub nothing_written : List Entry
nothing_written = Write 5 100 [] ∷ []

-- a file that comes and goes
abbrev pub passing_file : List Entry
passing_file = Create 1 name_b 6 File 420 ∷ Write 6 0 (104 ∷ 105 ∷ []) ∷ Unlink 1 name_b File ∷ []

-- a file without write permission, written by the log that creates it
abbrev pub read_only_file : List Entry
read_only_file = Create 1 name_r 6 File 292 ∷ Write 6 0 (104 ∷ 105 ∷ []) ∷ []

abbrev pub read_only_plan : Plan
read_only_plan = plan (name_row 1 name_r 6 ∷ []) (node_row 6 File 292 1000 1 2 ∷ []) (log_piece 6 0 2 1 0 ∷ [])

abbrev pub read_only_tree : Tree ℕ
read_only_tree = tree (root ∷ own_file 6 292 (104 ∷ 105 ∷ []) ∷ []) (named 1 name_r 6 ∷ [])

abbrev pub write_x : (number : ℕ) → List Entry
write_x number = Write number 0 (120 ∷ []) ∷ []

-- 4,097 bytes at 0
abbrev pub two_blocks : List Entry
two_blocks = Write 5 0 (replicate 4097 120) ∷ []

abbrev pub two_blocks_plan : Plan
two_blocks_plan = plan [] (file_row 5 4097 ∷ []) (log_piece 5 0 4097 0 0 ∷ [])

-- the first tier has so many blocks
abbrev pub with_room : (places : ℕ) → State
with_room places = record (file_state []) { sizes = record { first = places; second = 8; third = 8 } }

abbrev pub write_at_limit : List Entry
write_at_limit = Write 5 4294967296 (120 ∷ []) ∷ []
