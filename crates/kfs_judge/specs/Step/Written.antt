-- What a Write does to a header.
use Rattle.std.specs.Prelude.{◌≡◌, ◌<◌, ◌^◌, ℕ, ◌+◌, List, length, Option}
use Rattle.std.specs.Option.{option_map}
use Rattle.kfs_model.specs.Header.{Header}
use Rattle.kfs_model.specs.SeenAfter.{written_size}

-- the new header has the size that the file has after bytes are put at the offset, if their end fits 64
-- bits
abbrev pub IsWrittenAt : (offset : ℕ) (payload : List ℕ) → (before after : Option Header) → Type 0
IsWrittenAt offset payload before after = offset + length payload < 2 ^ 64 → after ≡ option_map (λ (h : Header). record h { size = written_size offset payload h.size }) before
