use Rattle.std.proofs.Common.{◌∙◌, ap, None}
use Rattle.std.specs.Prelude.{set}
use Rattle.kfs_program.specs.Verdicts.HeldVerdicts.{with_held}
use Rattle.kfs_program.specs.Verdicts.Holding.{hands_of}
use Rattle.kfs_program.proofs.VerdictsLemmas.Hands.{shown_with}
use Rattle.kfs_program.proofs.verdicts.held_verdicts.HeldVerdicts.take.Goals as goal

pub returns-clause-left : goal.returns-clause-left
returns-clause-left g c =
    let held = c.self.inside.held.items in
    ap (λ hand. hands_of (set held c.number.result hand)) c.take.ensures.after
    ∙ shown_with held c.number.result None
    ∙ ap (λ worker. with_held (hands_of held) worker None) c.number.ensures.value
    ∙ ap (λ hands. with_held hands c.args.worker.number None) c.self.view_is
