-- Whatever the steps left come to, all steps come to that.
use Rattle.std.proofs.Common.{drop}
use Rattle.kfs_workers.specs.Script.{DoesSteps, ScriptState}
use Rattle.kfs_workers.proofs.script.make_all.Given as goal

abbrev pub invariant-loop-step : goal.invariant-loop-step
invariant-loop-step g l = record {
  left : (last : ScriptState) → DoesSteps l.state (drop l.step-index l.steps) last → DoesSteps l.initial.state l.steps last;
}
