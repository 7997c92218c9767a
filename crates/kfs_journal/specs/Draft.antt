-- The next file while it is written in parts: its head's gate is closed, so it counts for nothing.
use Rattle.std.specs.Prelude.{◌≡◌, ◌+◌, ◌<◌, ◌^◌, ℕ, List, ◌∷◌, ◌++◌, length}
use Rattle.std.specs.Int.{w64, to_be_bytes}
use Rattle.std.specs.List.{AllByRecursion}
use Rattle.kfs_journal.specs.Disk.{Files, content, other}
use Rattle.kfs_journal.specs.Format.{before_gate, records_bytes}
use Rattle.kfs_journal.specs.declared.journal.Journal.{Journal}
use Rattle.kfs_journal.specs.declared.journal.draft.Draft.{Draft}

-- in the other file stand the next number, a closed gate, the length of a state, and these bytes
pub record HasDraft (files : Files) (journal : Journal) (draft : Draft) (bytes : List ℕ) : Type 0 where
  pub number : journal.number + 1 < 2 ^ 64
  pub file : content (other journal.file) files ≡ before_gate (journal.number + 1) ++ 0 ∷ (to_be_bytes w64 draft.state_len ++ bytes)
  pub end : draft.end ≡ 21 + length bytes

abbrev pub IsDrafted : Files → Journal → Draft → Type 0
IsDrafted files journal draft = (bytes : List ℕ) × HasDraft files journal draft bytes

-- these are a state, whole, and the records of groups
pub record IsWhole (files : Files) (journal : Journal) (draft : Draft) (state : List ℕ) (groups : List (List ℕ)) : Type 0 where
  pub stands : HasDraft files journal draft (state ++ records_bytes groups)
  pub state_len : draft.state_len ≡ length state
  pub state_fits : length state < 2 ^ 64
  pub groups_fit : AllByRecursion (λ group. length group < 2 ^ 32) groups

abbrev pub IsWritten : Files → Journal → Draft → Type 0
IsWritten files journal draft = (state : List ℕ) × (groups : List (List ℕ)) × IsWhole files journal draft state groups
