use Rattle.std.proofs.Common.{◌≡◌, ◌≢◌, [], length, Ok, Err, refl, arith, ap, eqb-true, sym, tests}
use Rattle.std.proofs.lemmas.List.{nil_from_length}
use Rattle.std.proofs.lemmas.Result.{err_from_is_err_and}
use Rattle.std.proofs.KnownBytes.{Appends-kept, Appends-nil}
use Rattle.kfs_program.specs.Engine.Views.{stage_of}
use Rattle.kfs_program.specs.declared.sessions.fault.EngineFault.TheVariants.{WriteFault}
use Rattle.kfs_program.proofs.EngineLemmas.SessionLoops.{HasAnswered-ended, HasAnswered-last, HasAnswered-stopped_last}
use Rattle.kfs_program.proofs.sessions.session_loop.SessionLoop.finish.Goals as goal

pub returns-in_err-flush-clause-session : goal.returns-in_err-flush-clause-session
returns-in_err-flush-clause-session g c =
    let p = err_from_is_err_and c.from_residual.result c.from_residual.ensures.1 in
    let line = c.args.self.now.line in
    let none : line.items ≡ [] = nil_from_length line.items (omega (arith, line.ok.0, eqb-true _ _ (sym c.if-is_empty.ensures))) in
    ([], Appends-kept _ _ _ _ (Appends-nil _) c.flush.ensures.bytes, λ input text h. rw (p.1, p.2) (HasAnswered-ended {T = Unit {0}} (Err WriteFault) (stage_of c.args.self.now.session) line.items input text none refl h))

pub returns-then-is_empty-clause-session : goal.returns-then-is_empty-clause-session
returns-then-is_empty-clause-session g c =
    let line = c.args.self.now.line in
    let none : line.items ≡ [] = nil_from_length line.items (omega (arith, line.ok.0, eqb-true _ _ (sym c.if-is_empty.ensures))) in
    ([], Appends-kept _ _ _ _ (Appends-nil _) c.flush.ensures.bytes, λ input text h. HasAnswered-ended {T = Unit {0}} (Ok tt) (stage_of c.args.self.now.session) line.items input text none tt h)

pub returns-in_err-answer-clause-session : goal.returns-in_err-answer-clause-session
returns-in_err-answer-clause-session g c =
    let p = err_from_is_err_and c.from_residual-in_err-answer.result c.from_residual-in_err-answer.ensures.1 in
    let done = c.in_err-answer.ensures.session in
    let line = c.args.self.now.line in
    let some : line.items ≢ [] = λ e. absurd (grind (arith, tests, line.ok.0, ap length e, c.if-is_empty.ensures)) in
    (done.0, done.1, λ input text h. rw (p.1, p.2) (HasAnswered-stopped_last (Unit {0}) _ _ _ input text done.0 some (done.2 h.held_short) h))

pub returns-in_err-flush-2-clause-session : goal.returns-in_err-flush-2-clause-session
returns-in_err-flush-2-clause-session g c =
    let p = err_from_is_err_and c.from_residual-in_err-flush-2.result c.from_residual-in_err-flush-2.ensures.1 in
    let done = c.in_ok-answer.ensures.session in
    let line = c.args.self.now.line in
    let some : line.items ≢ [] = λ e. absurd (grind (arith, tests, line.ok.0, ap length e, c.if-is_empty.ensures)) in
    (done.0, Appends-kept _ _ _ _ done.1 c.flush-2.ensures.bytes, λ input text h. rw (p.1, p.2) (HasAnswered-last {T = Unit {0}} (Err WriteFault) _ _ _ input text done.0 some (done.2 h.held_short) refl h))

pub returns-clause-session : goal.returns-clause-session
returns-clause-session g c =
    let done = c.in_ok-answer.ensures.session in
    let line = c.args.self.now.line in
    let some : line.items ≢ [] = λ e. absurd (grind (arith, tests, line.ok.0, ap length e, c.if-is_empty.ensures)) in
    (done.0, Appends-kept _ _ _ _ done.1 c.flush-2.ensures.bytes, λ input text h. HasAnswered-last {T = Unit {0}} (Ok tt) _ _ _ input text done.0 some (done.2 h.held_short) tt h)
