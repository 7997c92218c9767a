-- Where replies differ from those that are expected.
use Rattle.std.specs.Prelude.{ℕ, ◌+◌, ◌==◌, List, take, count_by}
use Rattle.kfs_program_text.specs.Cut.{line_end}

-- the line, from 1, in which the byte behind the first ones stands
abbrev pub line_behind : List ℕ → (same : ℕ) → ℕ
line_behind expected same = count_by (λ byte. byte == line_end) (take same expected) + 1
