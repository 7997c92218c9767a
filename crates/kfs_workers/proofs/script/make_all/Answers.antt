use Rattle.std.proofs.Common.{◌≡◌, ◌+◌, suc, arith, drop, subst, sym}
use Rattle.std.proofs.Math.Seq.{drop-cons}
use Rattle.kfs_workers.specs.Script.{DoesStep, DoesSteps}
use Rattle.kfs_workers.proofs.script.make_all.Goals as goal

pub loop-step-preserved : goal.loop-step-preserved
loop-step-preserved g c =
    let next : c.loop-step.step-index + 1 ≡ suc c.loop-step.step-index = omega arith in
    let made = subst (λ step. DoesStep c.loop-step.state step c.make.new.self) c.step-item.is c.make.ensures in
    record {
      left = λ last rest. c.loop-step.invariant.left last (subst (λ steps. DoesSteps c.loop-step.state steps last) (sym (drop-cons c.args.steps.now c.loop-step.step-index c.step-item.result c.loop-step-test.true)) (c.make.new.self, made, subst (λ n. DoesSteps c.make.new.self (drop n c.args.steps.now) last) next rest));
    }
