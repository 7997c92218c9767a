-- Lists of numbers in which no number stands twice.
use Rattle.std.specs.Prelude.{ℕ, ◌==◌, ◌&&◌, not, Bool, true, List, [], ◌∷◌}
use Rattle.std.specs.List.{list_any}

abbrev pub are_distinct : List ℕ → Bool
are_distinct [] = true
are_distinct (number ∷ numbers) = not (list_any (λ other. other == number) numbers) && are_distinct numbers
