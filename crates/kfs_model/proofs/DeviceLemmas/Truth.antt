-- Two tests that follow from one another answer alike.
use Rattle.std.proofs.Common.{◌≡◌, Bool, true, false, refl, sym}

pub same_truth : (a b : Bool) → (a ≡ true → b ≡ true) → (b ≡ true → a ≡ true) → a ≡ b
same_truth true b to from = sym (to refl)
same_truth false true to from = from refl
same_truth false false to from = refl
