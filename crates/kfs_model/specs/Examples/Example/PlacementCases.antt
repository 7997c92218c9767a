-- The states and rows of the examples on where blocks lie. Each landing is client 7's.
use Rattle.std.specs.Prelude.{ℕ, false, List, [], ◌∷◌, replicate, Ok}
use Rattle.kfs_model.specs.Header.{File}
use Rattle.kfs_model.specs.Entry.{Entry, Write, Truncate, Unlink}
use Rattle.kfs_model.specs.PlanRow.{Piece, Plan}
use Rattle.kfs_model.specs.Table.{empty}
use Rattle.kfs_model.specs.Judgement.{State, Reply, Accepted}
use Rattle.kfs_model.specs.Lease.{WriteLease}
use Rattle.kfs_model.specs.Machine.{Row, Submit, Tick, Done, Replied, placed}
use Rattle.kfs_model.specs.Examples.Example.{table, name_a, name_b, name_row, gone, file_row, zero_piece, log_piece, plan, tree, root, own_file, named, held_by_7, with_file}
use Rattle.kfs_model.specs.Examples.Example.FileCases.{letters, file_state}

-- a docket's row: what a log and its plan are answered, and the places of its written blocks
abbrev pub row : List Entry → Plan → Reply → (places : List ℕ) → Row
row entries rows reply places = record {
  call = Submit (record { client = 7; log = []; plan = [] }) (record { log = Ok (record { version = 1; client = 7; entries = entries }); plan = Ok rows });
  answer = Replied reply;
  rejudged = false;
  places = places;
}

-- these blocks lie at these places of tier 0, no others anywhere
abbrev pub lying : List ((ℕ × ℕ) × ℕ) → State → State
lying blocks s = record s { placement = placed blocks empty }

abbrev pub lies_at : (number block place : ℕ) → (ℕ × ℕ) × ℕ
lies_at number block place = ((number, block), place)

-- ---- two files

-- file 5 at "/a" and file 6 at "/b", client 7 holding both
abbrev pub files : (of_5 of_6 : List ℕ) → State
files of_5 of_6 = held_by_7 (tree (root ∷ own_file 5 420 of_5 ∷ own_file 6 420 of_6 ∷ []) (named 1 name_a 5 ∷ named 1 name_b 6 ∷ [])) (5 ∷ 6 ∷ [])

-- file 5 is empty, and file 6 has one byte, in a block at place 2
abbrev pub one_block : State
one_block = lying (lies_at 6 0 2 ∷ []) (files [] (104 ∷ []))

abbrev pub x_at_start : (number : ℕ) → Entry
x_at_start number = Write number 0 (120 ∷ [])

abbrev pub x_piece : (number entry : ℕ) → Piece
x_piece number entry = log_piece number 0 1 entry 0

-- file 5 gets its first byte, in a block at place 3
abbrev pub write_5 : (places : List ℕ) → Row
write_5 places = row (x_at_start 5 ∷ []) (plan [] (file_row 5 1 ∷ []) (x_piece 5 0 ∷ [])) (Accepted 1) places

abbrev pub written_5 : State
written_5 = lying (lies_at 5 0 3 ∷ lies_at 6 0 2 ∷ []) (files (120 ∷ []) (104 ∷ []))

-- file 6 gets another byte, in a block at place 0
abbrev pub rewrite_6 : (places : List ℕ) → Row
rewrite_6 places = row (x_at_start 6 ∷ []) (plan [] [] (x_piece 6 0 ∷ [])) (Accepted 1) places

abbrev pub rewritten_6 : State
rewritten_6 = lying (lies_at 6 0 0 ∷ []) (files [] (120 ∷ []))

-- both files are written
abbrev pub write_both : Reply → (places : List ℕ) → Row
write_both reply places = row (x_at_start 5 ∷ x_at_start 6 ∷ []) (plan [] (file_row 5 1 ∷ []) (x_piece 5 0 ∷ x_piece 6 1 ∷ [])) reply places

abbrev pub written_both : State
written_both = lying (lies_at 5 0 3 ∷ lies_at 6 0 0 ∷ []) (files (120 ∷ []) (120 ∷ []))

-- of two places one is free
abbrev pub narrow : State
narrow = lying (lies_at 6 0 1 ∷ []) (record (files [] (104 ∷ [])) { sizes = record { first = 2; second = 8; third = 8 } })

-- ---- blocks that go

-- file 5 has so many bytes, in blocks at places 0 and 1
abbrev pub two_blocks_long : (size : ℕ) → State
two_blocks_long size = lying (lies_at 5 0 0 ∷ lies_at 5 1 1 ∷ []) (held_by_7 (with_file (replicate size 120)) (5 ∷ []))

abbrev pub cut : (size : ℕ) → (places : List ℕ) → Row
cut size places = row (Truncate 5 size ∷ []) (plan [] (file_row 5 size ∷ []) []) (Accepted 0) places

-- file 5 has so many bytes, in a block at place 0
abbrev pub one_block_long : (size : ℕ) → State
one_block_long size = lying (lies_at 5 0 0 ∷ []) (held_by_7 (with_file (replicate size 120)) (5 ∷ []))

-- file 5 has ten bytes, in a block at place 4, and client 7 holds the root too
abbrev pub lettered : State
lettered = lying (lies_at 5 0 4 ∷ []) (held_by_7 (with_file letters) (1 ∷ 5 ∷ []))

abbrev pub clear : Row
clear = row (Truncate 5 0 ∷ Truncate 5 10 ∷ []) (plan [] [] (zero_piece 5 0 10 ∷ [])) (Accepted 0) []

abbrev pub cleared : State
cleared = held_by_7 (with_file (replicate 10 0)) (1 ∷ 5 ∷ [])

abbrev pub unlink_a : Row
unlink_a = row (Unlink 1 name_a File ∷ []) (plan (name_row 1 name_a 0 ∷ []) (gone 5 ∷ []) []) (Accepted 0) []

abbrev pub without_a : State
without_a = held_by_7 (tree (root ∷ []) []) (1 ∷ [])

-- ---- a lease that ends

-- file 5 is empty, and client 7 holds it until 10
abbrev pub held_to_10 : State
held_to_10 = record (file_state []) { leases = record { rows = table (((7, 5), record { kind = WriteLease; end = 10 }) ∷ []); moment = 0 } }

abbrev pub tick_10 : Row
tick_10 = record { call = Tick 10; answer = Done 10; rejudged = false; places = [] }

abbrev pub at_10 : State
at_10 = record (file_state []) { leases = record { rows = empty; moment = 10 } }
