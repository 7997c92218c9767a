-- The bytes of some of the examples' logs and plans.
use Rattle.std.specs.Prelude.{ℕ, List, [], ◌∷◌, ◌++◌, take, drop}
use Rattle.kfs_model.specs.Entry.{Entry, Log, Chmod, Regroup}
use Rattle.kfs_model.specs.PlanRow.{Plan}

-- the log that client 7 hands in, of version 1
abbrev pub log_of_7 : List Entry → Log
log_of_7 entries = record { version = 1; client = 7; entries = entries }

-- the same log and plan in version 2
abbrev pub log_in_2 : Log → Log
log_in_2 log = record log { version = 2 }

abbrev pub plan_in_2 : Plan → Plan
plan_in_2 plan = record plan { version = 2 }

-- the bytes with this version in place of theirs
abbrev pub in_version : (version : ℕ) → List ℕ → List ℕ
in_version version bytes = take 4 bytes ++ (version ∷ drop 5 bytes)

-- client 7 creates file 5 named "a" in the root
abbrev pub create_a_log_bytes : List ℕ
create_a_log_bytes = 75 ∷ 76 ∷ 79 ∷ 71 ∷ 1 ∷ 0 ∷ 0 ∷ 0 ∷ 7 ∷ 0 ∷ 1 ∷ 1 ∷ 0 ∷ 0 ∷ 0 ∷ 1 ∷ 1 ∷ 97 ∷ 0 ∷ 0 ∷ 0 ∷ 5 ∷ 0 ∷ 1 ∷ 164 ∷ []

-- the name "a" leads to 5, and the header of 5
abbrev pub create_a_plan_bytes : List ℕ
create_a_plan_bytes = 75 ∷ 80 ∷ 76 ∷ 78 ∷ 1 ∷ 0 ∷ 1 ∷ 0 ∷ 1 ∷ 0 ∷ 0 ∷ 0 ∷ 0 ∷ 0 ∷ 0 ∷ 0 ∷ 1 ∷ 1 ∷ 97 ∷ 0 ∷ 0 ∷ 0 ∷ 5 ∷ 0 ∷ 0 ∷ 0 ∷ 5 ∷ 1 ∷ 1 ∷ 164 ∷ 0 ∷ 0 ∷ 3 ∷ 232 ∷ 0 ∷ 0 ∷ 3 ∷ 232 ∷ 0 ∷ 1 ∷ 0 ∷ 0 ∷ 0 ∷ 0 ∷ 0 ∷ 0 ∷ 0 ∷ 0 ∷ []

-- client 7 writes "xy" at 2 and "QRS" at 3, cuts to 4 bytes, lengthens to 8, writes "Z" at 12
abbrev pub edits_log_bytes : List ℕ
edits_log_bytes = 75 ∷ 76 ∷ 79 ∷ 71 ∷ 1 ∷ 0 ∷ 0 ∷ 0 ∷ 7 ∷ 0 ∷ 5 ∷ 2 ∷ 0 ∷ 0 ∷ 0 ∷ 5 ∷ 0 ∷ 0 ∷ 0 ∷ 0 ∷ 0 ∷ 0 ∷ 0 ∷ 2 ∷ 0 ∷ 0 ∷ 0 ∷ 2 ∷ 120 ∷ 121 ∷ 2 ∷ 0 ∷ 0 ∷ 0 ∷ 5 ∷ 0 ∷ 0 ∷ 0 ∷ 0 ∷ 0 ∷ 0 ∷ 0 ∷ 3 ∷ 0 ∷ 0 ∷ 0 ∷ 3 ∷ 81 ∷ 82 ∷ 83 ∷ 3 ∷ 0 ∷ 0 ∷ 0 ∷ 5 ∷ 0 ∷ 0 ∷ 0 ∷ 0 ∷ 0 ∷ 0 ∷ 0 ∷ 4 ∷ 3 ∷ 0 ∷ 0 ∷ 0 ∷ 5 ∷ 0 ∷ 0 ∷ 0 ∷ 0 ∷ 0 ∷ 0 ∷ 0 ∷ 8 ∷ 2 ∷ 0 ∷ 0 ∷ 0 ∷ 5 ∷ 0 ∷ 0 ∷ 0 ∷ 0 ∷ 0 ∷ 0 ∷ 0 ∷ 12 ∷ 0 ∷ 0 ∷ 0 ∷ 1 ∷ 90 ∷ []

-- the header of 5, three pieces of the log and one of zero bytes
abbrev pub edits_plan_bytes : List ℕ
edits_plan_bytes = 75 ∷ 80 ∷ 76 ∷ 78 ∷ 1 ∷ 0 ∷ 0 ∷ 0 ∷ 1 ∷ 0 ∷ 0 ∷ 0 ∷ 4 ∷ 0 ∷ 0 ∷ 0 ∷ 5 ∷ 1 ∷ 1 ∷ 164 ∷ 0 ∷ 0 ∷ 3 ∷ 232 ∷ 0 ∷ 0 ∷ 3 ∷ 232 ∷ 0 ∷ 1 ∷ 0 ∷ 0 ∷ 0 ∷ 0 ∷ 0 ∷ 0 ∷ 0 ∷ 13 ∷ 0 ∷ 0 ∷ 0 ∷ 5 ∷ 0 ∷ 0 ∷ 0 ∷ 0 ∷ 0 ∷ 0 ∷ 0 ∷ 2 ∷ 0 ∷ 0 ∷ 0 ∷ 0 ∷ 0 ∷ 0 ∷ 0 ∷ 1 ∷ 1 ∷ 0 ∷ 0 ∷ 0 ∷ 0 ∷ 0 ∷ 0 ∷ 0 ∷ 0 ∷ 0 ∷ 5 ∷ 0 ∷ 0 ∷ 0 ∷ 0 ∷ 0 ∷ 0 ∷ 0 ∷ 3 ∷ 0 ∷ 0 ∷ 0 ∷ 0 ∷ 0 ∷ 0 ∷ 0 ∷ 1 ∷ 1 ∷ 0 ∷ 1 ∷ 0 ∷ 0 ∷ 0 ∷ 0 ∷ 0 ∷ 0 ∷ 0 ∷ 5 ∷ 0 ∷ 0 ∷ 0 ∷ 0 ∷ 0 ∷ 0 ∷ 0 ∷ 4 ∷ 0 ∷ 0 ∷ 0 ∷ 0 ∷ 0 ∷ 0 ∷ 0 ∷ 8 ∷ 0 ∷ 0 ∷ 0 ∷ 0 ∷ 5 ∷ 0 ∷ 0 ∷ 0 ∷ 0 ∷ 0 ∷ 0 ∷ 0 ∷ 12 ∷ 0 ∷ 0 ∷ 0 ∷ 0 ∷ 0 ∷ 0 ∷ 0 ∷ 1 ∷ 1 ∷ 0 ∷ 4 ∷ 0 ∷ 0 ∷ 0 ∷ 0 ∷ []

-- client 7 moves "x" of 20 into 12
abbrev pub move_7_log_bytes : List ℕ
move_7_log_bytes = 75 ∷ 76 ∷ 79 ∷ 71 ∷ 1 ∷ 0 ∷ 0 ∷ 0 ∷ 7 ∷ 0 ∷ 1 ∷ 6 ∷ 0 ∷ 0 ∷ 0 ∷ 20 ∷ 1 ∷ 120 ∷ 0 ∷ 0 ∷ 0 ∷ 12 ∷ 1 ∷ 120 ∷ []

-- "x" of 12 leads to 10, and "x" of 20 to none
abbrev pub plan_7_bytes : List ℕ
plan_7_bytes = 75 ∷ 80 ∷ 76 ∷ 78 ∷ 1 ∷ 0 ∷ 2 ∷ 0 ∷ 0 ∷ 0 ∷ 0 ∷ 0 ∷ 0 ∷ 0 ∷ 0 ∷ 0 ∷ 12 ∷ 1 ∷ 120 ∷ 0 ∷ 0 ∷ 0 ∷ 10 ∷ 0 ∷ 0 ∷ 0 ∷ 20 ∷ 1 ∷ 120 ∷ 0 ∷ 0 ∷ 0 ∷ 0 ∷ []

-- no entry of client 7
abbrev pub empty_log_bytes : List ℕ
empty_log_bytes = 75 ∷ 76 ∷ 79 ∷ 71 ∷ 1 ∷ 0 ∷ 0 ∷ 0 ∷ 7 ∷ 0 ∷ 0 ∷ []

-- client 7 sets the mode of 5
abbrev pub set_mode : (mode : ℕ) → List Entry
set_mode mode = Chmod 5 mode ∷ []

-- the same in bytes, with the two bytes of the mode
abbrev pub set_mode_bytes : (high low : ℕ) → List ℕ
set_mode_bytes high low = 75 ∷ 76 ∷ 79 ∷ 71 ∷ 1 ∷ 0 ∷ 0 ∷ 0 ∷ 7 ∷ 0 ∷ 1 ∷ 7 ∷ 0 ∷ 0 ∷ 0 ∷ 5 ∷ high ∷ low ∷ []

-- client 7 makes 50 the group of 5
abbrev pub set_group : List Entry
set_group = Regroup 5 50 ∷ []

abbrev pub set_group_bytes : List ℕ
set_group_bytes = 75 ∷ 76 ∷ 79 ∷ 71 ∷ 1 ∷ 0 ∷ 0 ∷ 0 ∷ 7 ∷ 0 ∷ 1 ∷ 8 ∷ 0 ∷ 0 ∷ 0 ∷ 5 ∷ 0 ∷ 0 ∷ 0 ∷ 50 ∷ []

-- no row
abbrev pub empty_plan_bytes : List ℕ
empty_plan_bytes = 75 ∷ 80 ∷ 76 ∷ 78 ∷ 1 ∷ 0 ∷ 0 ∷ 0 ∷ 0 ∷ 0 ∷ 0 ∷ 0 ∷ 0 ∷ []

-- ---- bytes that are no log and no plan: the first ones of those above, so many, or with more behind

abbrev pub cut_log : (count : ℕ) → List ℕ
cut_log count = take count create_a_log_bytes

abbrev pub cut_plan : (count : ℕ) → List ℕ
cut_plan count = take count create_a_plan_bytes
