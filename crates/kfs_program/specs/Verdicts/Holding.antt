-- The code's held verdicts, in terms of the definitions.
use Rattle.std.specs.Prelude.{List, map, Option, option_map}
use Rattle.kfs_plan.specs.Judged.{Judged}
use Rattle.kfs_desk.specs.Verdict.Verdict.{verdict_of}
use Rattle.kfs_program.specs.Verdicts.HeldVerdicts.{HeldVerdicts}

abbrev pub hands_of : {A : Type 0} → List (Option (Judged A)) → HeldVerdicts
hands_of held = map (option_map verdict_of) held
