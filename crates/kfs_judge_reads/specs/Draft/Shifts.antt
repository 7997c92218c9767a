-- By how much the counts of directories' names have changed.
use Rattle.std.specs.Prelude.{◌≡◌, ℕ, ℤ, pos, ◌+ℤ◌, Option, None, Some, unwrap_or, ◌==◌, if◌then◌else◌}
use Rattle.std.specs.Ordering.{nat_cmp}
use Rattle.std.specs.BTreeMap.{get}
use Rattle.kfs_judge_reads.specs.declared.draft.few.Shifts.{Shifts}

-- the first directory's change, or for another directory this
abbrev pub shift_beside : Option (ℕ × ℤ) → (d : ℕ) → ℤ → ℤ
shift_beside None d other = other
shift_beside (Some first) d other = if first.0 == d then first.1 else other

module _ {A : Type 0} where
  -- by how much the count of d has changed
  abbrev pub shift_in : Shifts A → (d : ℕ) → ℤ
  shift_in shifts d = shift_beside shifts.first d (unwrap_or (get nat_cmp shifts.others d) (pos 0))

  -- the count of d, and no other, has changed by so much more
  abbrev pub IsShifted : (old new : Shifts A) (d : ℕ) → ℤ → Type 0
  IsShifted old new d by = (e : ℕ) → shift_in new e ≡ (if e == d then shift_in old d +ℤ by else shift_in old e)
