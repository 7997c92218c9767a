use Rattle.std.proofs.Common.{inr, refl}
use Rattle.kfs_program.specs.Report.{reply_text}
use Rattle.kfs_program_text.specs.Parts.{line_of}
use Rattle.kfs_program.proofs.sessions.session.hand_in.Goals as goal

pub returns-in_ok-reply_line-in-Ok-clause-ok : goal.returns-in_ok-reply_line-in-Ok-clause-ok
returns-in_ok-reply_line-in-Ok-clause-ok g c =
    let answered = c.in-Ok.ensures in (
      line_of (reply_text c.in-Ok.answer),
      c.in_ok-reply_line-in-Ok.ensures.ok,
      inr (record {
        answer = c.in-Ok.answer;
        next = c.submit_bytes.new.self;
        below = λ full. cc (answered.full.1 full);
        answered = answered.answered;
        is = refl;
      }),
    )
