-- Rows that the code read, and where it stopped, by the code's fault.
use Rattle.std.specs.Prelude.{◌≡◌, ◌≤◌, ℕ, List, length, drop}
use Rattle.kfs_model.specs.Spelling.{AreRows, LacksRowBy}
use Rattle.kfs_entry.specs.declared.codec.row.RowsFault.{RowsFault}
use Rattle.kfs_entry.specs.declared.codec.row.RowsFault.TheVariants.{BadRow, OutOfMemory}

-- `count` rows are in the source from position `at` to `end`
pub record AreRead {R : Type 0} (fits : R → Type 0) (spelling : R → List ℕ) (source : List ℕ) (at count : ℕ) (rows : List R) (end : ℕ) : Type 0 where
  pub within : end ≤ length source
  pub number : length rows ≡ count
  pub are : AreRows fits spelling rows (drop at source) (drop end source)

-- the fault is right: the rows stop at the index that it names, or memory ran out
abbrev pub RowMissing : {R : Type 0} → (R → Type 0) → (R → List ℕ) → (List ℕ → Type 0) → ℕ → List ℕ → RowsFault → Type 0
RowMissing fits spelling begins count bytes (BadRow k) = LacksRowBy fits spelling begins count k bytes
RowMissing fits spelling begins count bytes OutOfMemory = Unit {0}
