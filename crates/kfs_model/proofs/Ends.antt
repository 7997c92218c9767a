-- What is said of each end of a run.
use Rattle.std.proofs.Common.{◌≡◌, Result, Ok, Err, refl}
use Rattle.std.specs.Prelude.{IfOk}

-- what each value has is said of the result
pub each_end : {X E : Type 0} (end : Result X E) (P : X → Type 0) → ((x : X) → end ≡ Ok x → P x) → IfOk end P
each_end (Ok x) P each = each x refl
each_end (Err e) P each = tt
