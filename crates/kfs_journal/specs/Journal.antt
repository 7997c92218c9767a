-- Where a journal stands, and what it promises.
use Rattle.std.specs.Prelude.{◌≡◌, ◌⊎◌, ◌<◌, ◌≤◌, ◌^◌, ◌*◌, ℕ, ◌+◌, List, [], ◌∷◌, ◌++◌, length, map, take, Vec, Option, Some, None, IfSome}
use Rattle.kfs_journal.specs.Disk.{Files, content, other, Only}
use Rattle.kfs_journal.specs.Format.{said_by, recovered, meaning, before_gate, records_len}
use Rattle.kfs_journal.specs.declared.disk.File.{File}
use Rattle.kfs_journal.specs.declared.disk.File.TheVariants.{First, Second}
use Rattle.kfs_journal.specs.declared.journal.Journal.{Journal}
use Rattle.kfs_journal.specs.declared.journal.Opened.{Opened}

-- a file that begins so says this, whatever stands behind, and the groups that stand there
abbrev pub Says : List ℕ → ℕ → List ℕ → List (List ℕ) → Type 0
Says front number state groups = (more : List ℕ) → said_by (front ++ more) ≡ Some (record { number = number; state = state; groups = groups ++ recovered more })

-- of two equal numbers the first file's counts
abbrev pub limit : File → ℕ → ℕ
limit First number = number + 1
limit Second number = number

-- what the other file says is older than this number in this file
abbrev pub IsBehind : File → ℕ → List ℕ → Type 0
IsBehind file number older = IfSome (said_by older) (λ said. said.number < limit file number)

-- the file is a head, whole records and a closed gate, the other file is behind, and all of it is on the disk
pub record IsSettled (seen : Files) (may_leave : Files → Type 0) (journal : Journal) : Type 0 where
  pub front : List ℕ
  pub state : List ℕ
  pub groups : List (List ℕ)
  pub file : content journal.file seen ≡ front ++ 0 ∷ []
  pub says : Says front journal.number state groups
  pub end : journal.end ≡ length front
  pub state_len : journal.state_len ≡ length state
  pub len : journal.end ≡ 21 + length state + records_len groups
  pub older : IsBehind journal.file journal.number (content (other journal.file) seen)
  pub durable : Only seen may_leave

-- the records have 2^20 bytes, and four times those of the state, or more
abbrev pub HasGrown : Option (List ℕ × List (List ℕ)) → Type 0
HasGrown None = ⊥
HasGrown (Some kept) = (2 ^ 20 ≤ records_len kept.1) × (4 * length kept.0 ≤ records_len kept.1)

-- so it is on these files, where all of them is on the disk
abbrev pub StandsOn : Files → Journal → Type 0
StandsOn files journal = IsSettled files (λ c. c ≡ files) journal

-- the files stand for this or that
abbrev pub IsOneOf : Option (List ℕ × List (List ℕ)) → Option (List ℕ × List (List ℕ)) → Files → Type 0
IsOneOf before after files = (meaning files ≡ before) ⊎ (meaning files ≡ after)

-- both files are empty: a journal may be created on them
abbrev pub AreEmpty : Files → Type 0
AreEmpty files = files ≡ ([], [])

-- neither file has a whole open head, and something is there
abbrev pub AreForeign : Files → Type 0
AreForeign files = (meaning files ≡ None) × (AreEmpty files → ⊥)

-- bytes that end in a closed gate at this offset
pub record EndsClosed (at : ℕ) (bytes : List ℕ) : Type 0 where
  pub front : List ℕ
  pub end : at ≡ length front
  pub parts : bytes ≡ front ++ 0 ∷ []

-- these bytes stand behind the gate, and it is open
abbrev pub IsOpened : List ℕ → List ℕ → List ℕ → Type 0
IsOpened bytes old new = (front : List ℕ) → old ≡ front ++ 0 ∷ [] → new ≡ front ++ 1 ∷ bytes

-- the gate is closed, or these bytes stand behind it
abbrev pub IsOpening : List ℕ → List ℕ → List ℕ → Type 0
IsOpening bytes old new = (front : List ℕ) → old ≡ front ++ 0 ∷ [] → ((rest : List ℕ) × (new ≡ front ++ 0 ∷ rest)) ⊎ ((gate : ℕ) × (new ≡ front ++ gate ∷ bytes))

-- a head with this number and state, and a closed gate
pub record IsFresh (number : ℕ) (state new : List ℕ) : Type 0 where
  pub front : List ℕ
  pub parts : new ≡ front ++ 0 ∷ []
  pub says : Says front number state []
  pub size : length front ≡ 21 + length state

-- the first bytes of what it was, or what says nothing
abbrev pub IsLess : List ℕ → List ℕ → Type 0
IsLess old new = ((n : ℕ) × (new ≡ take n old)) ⊎ (said_by new ≡ None)

-- what the file says while it gets a new head: less of what it said, nothing, or what the head says
abbrev pub IsRenewed : ℕ → List ℕ → List ℕ → List ℕ → Type 0
IsRenewed number state old new = IsLess old new ⊎ (said_by new ≡ Some (record { number = number; state = state; groups = [] }))

-- the beginning of a head, and its gate closed
abbrev pub IsClosedHead : ℕ → List ℕ → List ℕ → Type 0
IsClosedHead number old new = new ≡ before_gate number ++ 0 ∷ []

abbrev pub groups_of : {A : Type 0} → List (Vec ℕ A) → List (List ℕ)
groups_of groups = map (λ group. group.items) groups

abbrev pub opened_pair : {A : Type 0} → Opened A → List ℕ × List (List ℕ)
opened_pair opened = (opened.state.items, groups_of opened.groups.items)
