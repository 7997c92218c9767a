-- The places of all tiers numbered in a row, and how many extents have each.
use Rattle.std.specs.Prelude.{◌≡◌, ℕ, ◌+◌, ◌*◌, ◌<◌, ◌≤◌, ◌&&◌, nat_le, nat_lt, Bool, true, false}
use Rattle.std.specs.BTreeMap.{BTreeMap}
use Rattle.kfs_model.specs.Device.RawImage.{ExtentRow}
use Rattle.kfs_image.specs.declared.codec.raw.ExtentRow.{ExtentRow as CodeExtentRow}
use Rattle.kfs_shape.specs.Counts.{count_at}
use Rattle.kfs_image.specs.Codec.RawImages.{extent_row_of}

-- a number above the sum of any place and count of blocks
abbrev pub tier_span : ℕ
tier_span = 8589934592

abbrev pub first_position : ExtentRow → ℕ
first_position row = row.tier * tier_span + row.place

abbrev pub has_position : (position : ℕ) → ExtentRow → Bool
has_position position row = nat_le (first_position row) position && nat_lt position (first_position row + row.count)

abbrev pub lies_at : {A : Type 0} → (position : ℕ) → CodeExtentRow A → Bool
lies_at position row = has_position position (extent_row_of row)

-- a place of the extent was counted twice
abbrev pub TakenTwice : BTreeMap ℕ ℕ → ExtentRow → Type 0
TakenTwice uses row = (position : ℕ) × (has_position position row ≡ true) × (1 < count_at uses position)

abbrev pub NoneTwice : BTreeMap ℕ ℕ → ExtentRow → Type 0
NoneTwice uses row = (position : ℕ) → has_position position row ≡ true → count_at uses position ≤ 1

abbrev pub TellsWhetherAlone : BTreeMap ℕ ℕ → ExtentRow → Bool → Type 0
TellsWhetherAlone uses row true = NoneTwice uses row
TellsWhetherAlone uses row false = TakenTwice uses row
