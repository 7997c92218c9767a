-- Which node numbers nobody is granted yet, as a list that says so of each number.
use Rattle.std.specs.Prelude.{◌≡◌, ℕ, ◌≤◌, ◌&&◌, nat_le, not, Bool, List, IsTrue}
use Rattle.kfs_image.specs.Tier.Places.{is_free_in}

-- no number from the first to the last is granted
abbrev pub AreUngranted : (ungranted : List Bool) → (first last : ℕ) → Type 0
AreUngranted ungranted first last = (n : ℕ) → first ≤ n → n ≤ last → IsTrue (is_free_in ungranted n)

-- the new list has the numbers from the first to the last as granted too
abbrev pub MarksGranted : (old : List Bool) → (first last : ℕ) → (new : List Bool) → Type 0
MarksGranted old first last new = (n : ℕ) → is_free_in new n ≡ is_free_in old n && not (nat_le first n && nat_le n last)
