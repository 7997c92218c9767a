-- What two files in memory may be after a crash: they have what they had at first, and each call since.
use Rattle.std.specs.Prelude.{◌≡◌, ◌≤◌, ◌+◌, ℕ, List, [], ◌∷◌, ◌++◌, length, take, drop, if◌then◌else◌, nat_lt}
use Rattle.std.proofs.Common.{subst, sym, arith}
use Rattle.std.proofs.lemmas.List.{take_all}
use Rattle.kfs_journal.specs.declared.call.Call.{Call}
use Rattle.kfs_journal.specs.declared.call.Call.TheVariants as calls
use Rattle.kfs_journal.specs.declared.disk.File.{File}
use Rattle.kfs_journal.specs.declared.disk.File.TheVariants.{First, Second}
use Rattle.kfs_journal.specs.declared.memory.MemoryDisk.{MemoryDisk}
use Rattle.kfs_journal.specs.Disk.{Files, content, In, Torn, Cut}

-- the file that a call is for
abbrev pub file_of : Call → File
file_of (calls.Write file at bytes) = file
file_of (calls.Cut file len) = file
file_of (calls.Sync file) = file

-- the bytes over those from `at` on; nothing where the file is shorter
abbrev pub written : ℕ → List ℕ → List ℕ → List ℕ
written at bytes old = if nat_lt (length old) at then old else take at old ++ bytes ++ drop (at + length bytes) old

-- what a call makes of its file
abbrev pub changed : Call → List ℕ → List ℕ
changed (calls.Write file at bytes) old = written at bytes.items old
changed (calls.Cut file len) old = take len old
changed (calls.Sync file) old = old

abbrev pub with_content : File → List ℕ → Files → Files
with_content First bytes files = (bytes, files.1)
with_content Second bytes files = (files.0, bytes)

-- what is there after a call
abbrev pub made : Call → Files → Files
made call files = with_content (file_of call) (changed call (content (file_of call) files)) files

-- what is there after these calls
abbrev pub after : Files → List Call → Files
after files [] = files
after files (call ∷ rest) = after (made call files) rest

-- what a crash may leave of a call before which this was there: a sync is passed only by files that have it
abbrev pub MayLeave : Call → Files → Files → Files → Type 0
MayLeave (calls.Write file at bytes) there old new = In file (Torn at (length bytes.items)) old new
MayLeave (calls.Cut file len) there old new = In file (Cut len) old new
MayLeave (calls.Sync file) there old new = (new ≡ old) × (content file old ≡ content file there)

-- a crash after these calls may leave c, where it may have left `old` before them, and `there` was there
abbrev pub Reaches : Files → Files → List Call → Files → Type 0
Reaches there old [] c = c ≡ old
Reaches there old (call ∷ rest) c = (d : Files) × MayLeave call there old d × Reaches (made call there) d rest c

-- the files at first
abbrev pub memory_start : MemoryDisk → Files
memory_start m = (m.first.items, m.second.items)

abbrev pub memory_seen : MemoryDisk → Files
memory_seen m = after (memory_start m) m.calls.items

abbrev pub memory_may_leave : MemoryDisk → Files → Type 0
memory_may_leave m c = Reaches (memory_start m) (memory_start m) m.calls.items c

-- a crash after the first so many calls may leave c
abbrev pub memory_left_at : MemoryDisk → ℕ → Files → Type 0
memory_left_at m moment c = Reaches (memory_start m) (memory_start m) (take moment m.calls.items) c

-- after some of the calls, t of them at least
abbrev pub Since : Files → List Call → ℕ → Files → Type 0
Since start made t c = (k : ℕ) × (t ≤ k) × (k ≤ length made) × Reaches start start (take k made) c

abbrev pub memory_left_since : MemoryDisk → ℕ → Files → Type 0
memory_left_since m t c = Since (memory_start m) m.calls.items t c

pub now_counts : (start : Files) (made : List Call) (t : ℕ) (c : Files) → t ≤ length made → Reaches start start made c → Since start made t c
now_counts start made t c le now = (length made, le, omega arith, subst (λ (l : List Call). Reaches start start l c) (sym (take_all (length made) made (omega arith))) now)

pub no_other : (start : Files) (made : List Call) (c : Files) → Since start made (length made) c → Reaches start start made c
no_other start made c since = subst (λ (l : List Call). Reaches start start l c) (take_all since.0 made since.1) since.3
