-- What the code's workers hold, in terms of the definitions.
use Rattle.kfs_plan.specs.Judging.{submission_of}
use Rattle.kfs_workers.specs.Script.{Holding, Taken, Decided}
use Rattle.kfs_desk.specs.Verdict.Verdict.{verdict_of}
use Rattle.kfs_workers.specs.declared.script_state.Holding.{Holding as CodeHeld}
use Rattle.kfs_workers.specs.declared.script_state.Holding.TheVariants as holdings

-- what a worker holds
abbrev pub held_of : {A : Type 0} → CodeHeld A → Holding
held_of (holdings.Taken ticket submission look) = Taken ticket (submission_of submission) look
held_of (holdings.Decided ticket judged) = Decided ticket (verdict_of judged)
