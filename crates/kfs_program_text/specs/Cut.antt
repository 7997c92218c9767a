-- Bytes cut at a mark: into lines at line ends, into words at spaces.
use Rattle.std.specs.Prelude.{ℕ, ◌==◌, List, [], ◌∷◌}
use Rattle.std.specs.List.{slice_split}

-- the parts between the marks, one more than there are marks
unfoldable pub cut : (mark : ℕ) → List ℕ → List (List ℕ)
cut mark bytes = slice_split (λ byte. byte == mark) bytes

abbrev pub line_end : ℕ
line_end = 10

abbrev pub space : ℕ
space = 32

-- the last part of an input counts as a line if it isn't empty
abbrev pub unended : List ℕ → List (List ℕ)
unended [] = []
unended (byte ∷ bytes) = (byte ∷ bytes) ∷ []

-- the parts as lines, without a last one that is empty
abbrev pub lines_in : List (List ℕ) → List (List ℕ)
lines_in [] = []
lines_in (rest ∷ []) = unended rest
lines_in (line ∷ next ∷ parts) = line ∷ lines_in (next ∷ parts)

-- the lines of an input; a last line without an end counts
abbrev pub lines_of : List ℕ → List (List ℕ)
lines_of input = lines_in (cut line_end input)
