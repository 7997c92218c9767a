use Rattle.std.proofs.Common.{◌++◌, ap, ◌∙◌}
use Rattle.std.proofs.KnownBytes.{Appends-trans}
use Rattle.std.proofs.lemmas.Result.{err_from_is_err_and}
use Rattle.kfs_program.specs.Engine.Views.{stage_of}
use Rattle.kfs_program.proofs.EngineLemmas.SessionLoops.{HasAnswered-line, HasAnswered-rest, HasAnswered-stopped_line}
use Rattle.kfs_program.proofs.sessions.session_loop.SessionLoop.take.Goals as goal

pub returns-in_err-end_line-clause-session : goal.returns-in_err-end_line-clause-session
returns-in_err-end_line-clause-session g c =
    let p = err_from_is_err_and c.from_residual.result c.from_residual.ensures.1 in
    let done = c.lines.invariant in
    let last = c.in_err-end_line.ensures.session in (
      done.0 ++ last.0,
      Appends-trans _ _ _ _ _ done.1 last.1,
      λ input text h. rw (p.1, p.2)
          (HasAnswered-stopped_line (Unit {0}) _ _ _ c.lines.rest.now _ c.in-Some.behind.now input text done.0 last.0 c.in-Some.ensures.cut last.2 (done.2 input text h)),
    )

pub lines-preserved : goal.lines-preserved
lines-preserved g c =
    let done = c.lines.invariant in
    let last = c.in_ok-end_line.ensures.session in (
      done.0 ++ last.0,
      Appends-trans _ _ _ _ _ done.1 last.1,
      λ input text h. HasAnswered-line _ _ _ _ c.lines.rest.now _ c.in-Some.behind.now input text done.0 last.0
          c.in_ok-end_line.ensures.cleared c.in-Some.ensures.cut last.2 (done.2 input text h),
      c.in_ok-end_line.ensures.first ∙ done.3,
    )

pub returns-clause-session : goal.returns-clause-session
returns-clause-session g c =
    let done = c.lines.invariant in
    (done.0, done.1, λ input text h. HasAnswered-rest c.keep.result c.keep.new.self _ _ c.lines.rest.now input (text ++ done.0) (ap stage_of c.keep.ensures.session) c.in_default.ensures.cut c.keep.ensures.line (done.2 input text h))
