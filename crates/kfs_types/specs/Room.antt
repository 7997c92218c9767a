-- The spare room of a vector.
use Rattle.std.specs.Prelude.{◌≡◌, ℕ, ◌+◌, ◌-◌, ◌≤◌, ◌++◌, List, Vec, vec_len, vec_capacity}

-- how many more elements fit without taking memory
abbrev pub spare_of : {X Z : Type 0} → Vec X Z → ℕ
spare_of v = vec_capacity v - vec_len v

-- the elements are appended, and at most `most` places of the room are used
pub record Appends {X Z : Type 0} (old new : Vec X Z) (most : ℕ) (elements : List X) : Type 0 where
  pub spare : spare_of old ≤ spare_of new + most
  pub items : new.items ≡ old.items ++ elements
