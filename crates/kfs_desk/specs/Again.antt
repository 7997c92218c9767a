-- What a verdict comes to where it was judged again.
use Rattle.std.specs.Prelude.{ℕ, List, Option, Some, None}
use Rattle.kfs_plan.specs.declared.submission.Outcome.{Outcome}

-- the outcome that was found again, or else the first one
abbrev pub latest : {A : Type 0} → Outcome A (List ℕ) → Option (Outcome A (List ℕ)) → Outcome A (List ℕ)
latest outcome None = outcome
latest outcome (Some again) = again
