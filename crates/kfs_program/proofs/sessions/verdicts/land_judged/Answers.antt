use Rattle.std.proofs.Common.{inr, refl}
use Rattle.kfs_program.specs.Report.{reply_text}
use Rattle.kfs_program_text.specs.Parts.{line_of}
use Rattle.kfs_desk.proofs.VerdictLemmas.Verdicts.{lands_verdict}
use Rattle.kfs_program.proofs.sessions.verdicts.land_judged.Goals as goal

pub returns-in-Ok-clause-ok : goal.returns-in-Ok-clause-ok
returns-in-Ok-clause-ok g c =
    let landed = c.in-Ok.ensures in (
      line_of (reply_text c.in-Ok.answer),
      c.in_ok-reply_line-in-Ok.ensures.ok,
      inr (record {
        answer = c.in-Ok.answer;
        next = c.land.new.self;
        landed = lands_verdict c.args.desk.now c.land.new.self c.args.judged c.in-Ok.answer (λ full. landed.full.1 full) landed.rejudged landed.answered;
        is = refl;
      }),
    )
