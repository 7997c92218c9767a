-- What a chunk is in contracts.
use Rattle.std.specs.Prelude.{ℕ, List}

-- entries, and for how many more there is room
pub record Buffer (K V : Type 0) : Type 0 where
  pub pairs : List (K × V)
  pub room : ℕ
