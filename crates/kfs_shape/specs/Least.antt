-- The least number at which one of several tests fails.
use Rattle.std.specs.Prelude.{ℕ, ◌-◌, ◌==◌, if◌then◌else◌, List, Option, Some, None, slice_get}
use Rattle.kfs_model.specs.Device.Finding.{least_of}

-- the lesser of two numbers, each of which may be missing
abbrev pub merged : Option ℕ → Option ℕ → Option ℕ
merged None later = later
merged (Some number) later = Some (least_of number later)

module _ {X : Type 0} where
  -- the row before the one with this index
  abbrev pub before : List X → (index : ℕ) → Option X
  before rows index = if index == 0 then None else slice_get rows (index - 1)
