-- The reply to `list`.
use Rattle.std.specs.Prelude.{ℕ, ◌==◌, List, [], ◌∷◌, ◌++◌, filter, codes, decimal}
use Rattle.hex.specs.Hex.{encode_lower}
use Rattle.kfs_model.specs.Tree.{NameTable}

-- the names of the directory in order, each with the number that it leads to
abbrev pub names_in : NameTable → (directory : ℕ) → List ((ℕ × List ℕ) × ℕ)
names_in names directory = filter (λ e. e.0.0 == directory) names.entries

-- the text of one name: a space, its bytes in hexadecimal, a colon, the number
abbrev pub name_text : (ℕ × List ℕ) × ℕ → List ℕ
name_text e = codes " " ++ (encode_lower e.0.1 ++ (codes ":" ++ decimal e.1))

unfoldable pub names_text : List ((ℕ × List ℕ) × ℕ) → List ℕ
names_text [] = []
names_text (e ∷ es) = name_text e ++ names_text es

abbrev pub list_text : (directory : ℕ) → NameTable → List ℕ
list_text directory names = codes "list " ++ (decimal directory ++ names_text (names_in names directory))
