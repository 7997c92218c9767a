-- What the code read at a position of the source, in the terms of a reader of bytes.
use Rattle.std.specs.Prelude.{◌≡◌, ◌≤◌, ℕ, List, ◌++◌, length, take, drop, Option, Some, None}

-- the value that was read, and the bytes behind it
abbrev pub seen : {V M : Type 0} → (V → M) → List ℕ → Option (V × ℕ) → Option (M × List ℕ)
seen view source None = None
seen view source (Some x) = Some (view x.0, drop x.1 source)

-- `count` bytes of the source, from position `at` to `end`, are these
pub record IsChunk (source : List ℕ) (at count : ℕ) (bytes : List ℕ) (end : ℕ) : Type 0 where
  pub next : bytes ≡ take count (drop at source)
  pub rest : drop end source ≡ drop count (drop at source)
  pub within : end ≤ length source
  pub enough : count ≤ length (drop at source)

-- the bytes of the source from position `at` to `end` are this encoding
pub record StandsIn (source : List ℕ) (at end : ℕ) (spelling : List ℕ) : Type 0 where
  pub within : end ≤ length source
  pub parts : drop at source ≡ spelling ++ drop end source
