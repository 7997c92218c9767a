-- Two steps in a row, where each may have no result.
use Rattle.std.specs.Prelude.{Option, Some, None}

infixl 10 ◌>>=◌
abbrev pub ◌>>=◌ : {V W : Type 0} → Option V → (V → Option W) → Option W
None >>= f = None
(Some x) >>= f = f x
