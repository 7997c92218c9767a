-- The tables of digits.
use Rattle.std.specs.Prelude.{ℕ, ◌*◌, Option, Some, None}

-- a digit's value in units of `scale`; 256 where there is no digit
abbrev pub scaled : (scale : ℕ) → Option ℕ → ℕ
scaled scale (Some value) = value * scale
scaled scale None = 256
