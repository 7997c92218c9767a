-- How often numbers are counted.
use Rattle.std.specs.Prelude.{ℕ, unwrap_or}
use Rattle.std.specs.Ordering.{nat_cmp}
use Rattle.std.specs.BTreeMap as shown
use Rattle.std.specs.BTreeMap.{BTreeMap}

-- how often the map has counted the number
abbrev pub count_at : BTreeMap ℕ ℕ → (number : ℕ) → ℕ
count_at counts number = unwrap_or (shown.get nat_cmp counts number) 0
