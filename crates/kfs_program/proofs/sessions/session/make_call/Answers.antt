use Rattle.std.proofs.Common.{◌≡◌, Ok, Err, inr, refl}
use Rattle.kfs_program.specs.Report.{act_text}
use Rattle.kfs_program_text.specs.Parts.{line_of}
use Rattle.kfs_program.proofs.sessions.session.make_call.Goals as goal

apart : {A E : Type 0} {answer : A} {why : E} → Ok answer ≡ Err why → ⊥
apart e = cc

pub returns-in_ok-act_line-in-Ok-clause-ok : goal.returns-in_ok-act_line-in-Ok-clause-ok
returns-in_ok-act_line-in-Ok-clause-ok g c =
    let called = c.in-Ok.ensures in (
      line_of (act_text c.in-Ok.answer),
      c.in_ok-act_line-in-Ok.ensures.ok,
      inr (record {
        answer = c.in-Ok.answer;
        next = c.act.new.self;
        below = λ full. apart (called.full.1 full);
        acted = called.done;
        is = refl;
      }),
    )
