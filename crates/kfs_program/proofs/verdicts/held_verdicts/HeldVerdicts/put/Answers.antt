use Rattle.std.proofs.Common.{◌∙◌, ap, Some}
use Rattle.kfs_program.specs.Verdicts.HeldVerdicts.{with_held}
use Rattle.kfs_program.specs.Verdicts.Holding.{hands_of}
use Rattle.kfs_desk.specs.Verdict.Verdict.{verdict_of}
use Rattle.kfs_program.proofs.VerdictsLemmas.Hands.{shown_with}
use Rattle.kfs_program.proofs.verdicts.held_verdicts.HeldVerdicts.put.Goals as goal

pub returns : goal.returns
returns g c =
    let held = c.self.inside.held.items in
    let verdict = verdict_of c.args.judged in
    shown_with held c.number.result (Some c.args.judged)
    ∙ ap (λ worker. with_held (hands_of held) worker (Some verdict)) c.number.ensures.value
    ∙ ap (λ hands. with_held hands c.args.worker.number (Some verdict)) c.self.view_is
