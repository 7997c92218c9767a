-- Lists that begin alike, and lists of numbers in which none stands twice.
use Rattle.std.specs.Prelude.{◌≡◌, ℕ, ◌⊎◌, List, [], ◌∷◌, ◌++◌}

-- the first list begins with the second
abbrev pub StartsWith : {W : Type 0} → (longer shorter : List W) → Type 0
StartsWith {W} longer shorter = (more : List W) × (longer ≡ shorter ++ more)

-- the number stands in the list
abbrev pub Has : List ℕ → (number : ℕ) → Type 0
Has [] number = ⊥
Has (first ∷ rest) number = (first ≡ number) ⊎ Has rest number

-- no number stands in it twice
abbrev pub AreDistinct : List ℕ → Type 0
AreDistinct [] = Unit {0}
AreDistinct (first ∷ rest) = (Has rest first → ⊥) × AreDistinct rest
