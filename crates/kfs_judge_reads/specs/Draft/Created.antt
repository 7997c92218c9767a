-- The numbers that a log has created.
use Rattle.std.specs.Prelude.{ℕ, Bool, false, Option, None, Some, ◌==◌, ◌||◌}
use Rattle.std.specs.Ordering.{nat_cmp}
use Rattle.std.specs.BTreeSet.{contains}
use Rattle.kfs_judge_reads.specs.declared.draft.few.Created.{Created}

-- whether there is a number, and it is n
abbrev pub has_number : Option ℕ → (n : ℕ) → Bool
has_number None n = false
has_number (Some m) n = m == n

module _ {A : Type 0} where
  -- whether the log has created n
  abbrev pub is_created : Created A → (n : ℕ) → Bool
  is_created created n = has_number created.first n || contains nat_cmp created.others n
