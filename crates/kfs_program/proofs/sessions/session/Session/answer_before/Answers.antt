-- What the opening answers, where the stage is before the beginning.
use Rattle.std.proofs.Common.{rules, ◌≡◌, ◌∙◌, ap, sym, Err}
use Rattle.kfs_program_text.specs.declared.words.Refusal.TheVariants.{BadLine, OutOfMemory}
use Rattle.kfs_program.specs.Engine.Session.{After, Before}
use Rattle.kfs_program.specs.Engine.Views.{stage_after, stage_in, start_of}
use Rattle.kfs_program.proofs.EngineLemmas.Held.{opened_at}
use Rattle.kfs_program.proofs.sessions.session.Session.answer_before.Goals as goal

pub returns-in_err-desk-in-Before-clause-bad : goal.returns-in_err-desk-in-Before-clause-bad
returns-in_err-desk-in-Before-clause-bad g c is =
    let bad : c.answer.result ≡ Err BadLine = search rules in
    opened_at c.args.self.now.stage c.in-Before.opening _ _ c.in-Before.is (c.answer.ensures.bad bad)

pub returns-in_err-desk-in-Before-clause-memory : goal.returns-in_err-desk-in-Before-clause-memory
returns-in_err-desk-in-Before-clause-memory g c is =
    let out : c.answer.result ≡ Err OutOfMemory = search rules in
    ap Before (c.answer.ensures.memory out) ∙ sym (ap stage_in c.in-Before.is)

pub returns-in-Some-clause-ok : goal.returns-in-Some-clause-ok
returns-in-Some-clause-ok g c =
    let opened = c.in_ok-desk-in-Before.ensures.ok in (
      opened.0,
      opened.1,
      opened_at c.args.self.now.stage c.in-Before.opening _ _ c.in-Before.is
          (opened.2 ∙ ap (λ begun. (opened.0, stage_after begun (start_of c.answer.new.self))) c.in-Some.is ∙ ap (λ hands. (opened.0, After c.in-Some.desk hands)) (sym c.in_ok-hands-in-Before.ensures)),
    )
