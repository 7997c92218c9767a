-- What is taken from a reader and appended to a writer.
use Rattle.std.specs.Prelude.{◌≡◌, ℕ, List, ◌++◌, Option, Result, MatchOption, MatchResult, take}
use Rattle.std.specs.Io.KnownBytes.{Appends, Consumes, Keeps}

-- a text is written, and this holds of it
abbrev pub Writes : (before after : Option (List ℕ)) → ((text : List ℕ) → Type 0) → Type 0
Writes before after Holds = (text : List ℕ) × Appends before after text × Holds text

-- input is read and a text is written, and this holds of both
abbrev pub Exchanges : (before_reads after_reads before_writes after_writes : Option (List ℕ)) → ((input text : List ℕ) → Type 0) → Type 0
Exchanges before_reads after_reads before_writes after_writes Holds =
    (input : List ℕ) × (text : List ℕ) × Consumes before_reads after_reads input × Appends before_writes after_writes text × Holds input text

-- so many bytes are read, to the front of the chunk; an interrupted read and a failed one read none
abbrev pub IsChunkRead : {E : Type 0} → Result (Option ℕ) E → (chunk : List ℕ) → (before after : Option (List ℕ)) → Type 0
IsChunkRead result chunk before after =
    MatchResult result (λ read. MatchOption read (Keeps before after) (λ count. Consumes before after (take count chunk))) (λ fault. Keeps before after)

-- all bytes are written, or a first part of them where the writer fails
abbrev pub IsWritten : {T E : Type 0} → Result T E → (bytes text : List ℕ) → Type 0
IsWritten result bytes text = MatchResult result (λ done. text ≡ bytes) (λ fault. (unwritten : List ℕ) × (bytes ≡ text ++ unwritten))
