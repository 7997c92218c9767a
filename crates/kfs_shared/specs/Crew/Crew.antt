-- What the workers of a crew come to.
use Rattle.std.specs.Prelude.{◌≡◌, ℕ, List, [], ◌∷◌, ◌++◌}
use Rattle.kfs_shared.specs.Turns.Lists.{StartsWith}

-- the two lists have as many elements, and P holds of each two at one place
abbrev pub Pairs : {X Y : Type 0} → (X → Y → Type 0) → List X → List Y → Type 0
Pairs P [] [] = Unit {0}
Pairs P [] (y ∷ ys) = ⊥
Pairs P (x ∷ xs) [] = ⊥
Pairs P (x ∷ xs) (y ∷ ys) = P x y × Pairs P xs ys

-- Of an object that was begun so: the tasks were the first and are the second. Their workers, whose passes had seen `from`, made
-- these rows, one worker's after the other's, and each has seen a beginning of `upto`
abbrev pub Achieved : {V W : Type 0} → (List W → List W → List ℕ → V → V → Type 0) → (from upto : List W) → List ℕ → List V → List V → Type 0
Achieved P from upto own [] [] = own ≡ []
Achieved P from upto own [] (w ∷ ws) = ⊥
Achieved P from upto own (v ∷ vs) [] = ⊥
Achieved {V} {W} P from upto own (v ∷ vs) (w ∷ ws) =
    (seen : List W) × (mine more : List ℕ) × (own ≡ mine ++ more) × StartsWith upto seen × P from seen mine v w × Achieved P from upto more vs ws
