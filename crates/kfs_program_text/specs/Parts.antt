-- The parts of a line.
use Rattle.std.specs.Prelude.{ℕ, ◌+◌, ◌/◌, ◌%◌, List, [], ◌∷◌, ◌++◌, Bool, if◌then◌else◌, codes, decimal}

-- a name with a number in brackets
abbrev pub numbered_text : List ℕ → ℕ → List ℕ
numbered_text name n = name ++ (codes "(" ++ (decimal n ++ codes ")"))

abbrev pub flag_text : Bool → List ℕ
flag_text b = if b then codes "1" else codes "0"

abbrev pub field_text : ℕ → List ℕ
field_text n = codes " " ++ decimal n

-- four octal digits
abbrev pub octal_text : ℕ → List ℕ
octal_text mode = (48 + mode / 512 % 8) ∷ (48 + mode / 64 % 8) ∷ (48 + mode / 8 % 8) ∷ (48 + mode % 8) ∷ []

-- the text with a line's end
abbrev pub line_of : List ℕ → List ℕ
line_of text = text ++ codes "\n"
