-- What the calls of a disk do to its two files, and what a crash may do between two syncs.
use Rattle.std.specs.Prelude.{◌≡◌, ◌⊎◌, ℕ, ◌+◌, ◌≤◌, min, max, List, ◌++◌, length, take, drop}
use Rattle.kfs_journal.specs.declared.disk.File.{File}
use Rattle.kfs_journal.specs.declared.disk.File.TheVariants.{First, Second}

-- the bytes of the first file, and of the second
abbrev pub Files : Type 0
Files = List ℕ × List ℕ

abbrev pub content : File → Files → List ℕ
content First files = files.0
content Second files = files.1

abbrev pub other : File → File
other First = Second
other Second = First

-- new is old with these bytes at this offset
abbrev pub Holds : ℕ → List ℕ → List ℕ → List ℕ → Type 0
Holds at bytes old new = new ≡ take at old ++ bytes ++ drop (at + length bytes) old

-- after a write of n bytes that a crash cuts short: any bytes in the range and past the old end, the same elsewhere
pub record Torn (at n : ℕ) (old new : List ℕ) : Type 0 where
  pub before : take at new ≡ take at old
  pub after : drop (at + n) new ≡ drop (at + n) old
  pub no_shorter : length old ≤ length new
  pub no_longer : length new ≤ max (length old) (at + n)

-- new is the first n bytes
abbrev pub IsFront : ℕ → List ℕ → List ℕ → Type 0
IsFront n old new = new ≡ take n old

-- after a cut that a crash cuts short, or that failed: some length between
pub record Cut (n : ℕ) (old new : List ℕ) : Type 0 where
  pub no_shorter : min n (length old) ≤ length new
  pub front : take (length new) old ≡ new

-- a step of one file, and the other stays
pub record In (file : File) (step : List ℕ → List ℕ → Type 0) (old new : Files) : Type 0 where
  pub changed : step (content file old) (content file new)
  pub stays : content (other file) new ≡ content (other file) old

-- each new outcome of a crash is an old outcome after a step
abbrev pub Follows : (Files → Files → Type 0) → (Files → Type 0) → (Files → Type 0) → Type 0
Follows step old new = (c : Files) → new c → (d : Files) × old d × step d c

-- a crash leaves this and nothing else
abbrev pub Only : Files → (Files → Type 0) → Type 0
Only files outcomes = (c : Files) → outcomes c → c ≡ files

-- time goes on: a crash since t might have left what it might have left before, or what it may leave now.
pub record Elapses (before now : ℕ) (past since : ℕ → Files → Type 0) (may_leave : Files → Type 0) : Type 0 where
  pub later : before ≤ now
  pub nothing_else : (t : ℕ) (c : Files) → t ≤ before → since t c → past t c ⊎ may_leave c
  pub keeps : (t : ℕ) (c : Files) → t ≤ before → past t c → since t c

-- a crash at any moment since old leaves files that have P.
pub record LeavesOnly {D : Type 0} (moment : D → ℕ) (left_since : D → ℕ → Files → Type 0) (old new : D) (P : Files → Type 0) : Type 0 where
  pub later : moment old ≤ moment new
  pub each : (c : Files) → left_since new (moment old) c → P c
  -- for a run that began earlier
  pub before : (t : ℕ) (c : Files) → t ≤ moment old → left_since new t c → left_since old t c ⊎ P c
