-- The bytes of a name as they are kept.
use Rattle.std.specs.Prelude.{ℕ, ◌-◌, List, ◌++◌, length, replicate}
use Rattle.kfs_model.specs.Limits.{name_limit}

-- the bytes, and zeros behind them, as many bytes as the longest name has
abbrev pub padded : List ℕ → List ℕ
padded bytes = bytes ++ replicate (name_limit - length bytes) 0
