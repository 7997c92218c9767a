-- What the code's hands show.
use Rattle.std.proofs.Common.{◌≡◌, ℕ, List, Option, option_map}
use Rattle.std.specs.Prelude.{set}
use Rattle.std.proofs.lemmas.List.{map-set}
use Rattle.kfs_plan.specs.Judged.{Judged}
use Rattle.kfs_program.specs.Verdicts.HeldVerdicts.{with_held}
use Rattle.kfs_program.specs.Verdicts.Holding.{hands_of}
use Rattle.kfs_desk.specs.Verdict.Verdict.{verdict_of}

-- what is written into a hand, as it is shown
pub shown_with : {A : Type 0} (held : List (Option (Judged A))) (worker : ℕ) (hand : Option (Judged A)) → hands_of (set held worker hand) ≡ with_held (hands_of held) worker (option_map verdict_of hand)
shown_with held worker hand = map-set (option_map verdict_of) held worker hand
