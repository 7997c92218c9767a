use Rattle.std.proofs.Common.{◌++◌, [], Result, Ok, Err, OnOk, refl, take, append-nil, ◌∙◌}
use Rattle.std.specs.Io.KnownBytes.{IsAtEnd}
use Rattle.std.proofs.KnownBytes.{Appends-kept, Appends-nil, Appends-trans, Consumes-kept, Consumes-nil, Consumes-trans}
use Rattle.std.proofs.lemmas.Result.{err_from_is_err_and}
use Rattle.kfs_program.specs.declared.sessions.fault.EngineFault.TheVariants.{ReadFault}
use Rattle.kfs_program.proofs.EngineLemmas.SessionLoops.{HasAnswered-read, HasAnswered-unread, HasAnswered-unsent, session_at}
use Rattle.kfs_program.proofs.sessions.answer_all.Goals as goal

on_ok : {T E P : Type 0} (result : Result T E) → P → OnOk result P
on_ok (Ok x) holds = holds
on_ok (Err e) holds = tt

pub reads-init : goal.reads-init
reads-init g c = ([], [], Consumes-nil _, Appends-nil _, c.new-session_loop.ensures, refl)

pub returns-in_err-count-clause-session : goal.returns-in_err-count-clause-session
returns-in_err-count-clause-session g c =
    let p = err_from_is_err_and c.from_residual.result c.from_residual.ensures.1 in
    let done = c.reads.invariant in
    (done.0, done.1, Consumes-kept _ _ _ _ done.2 c.in_err-count.ensures.bytes, done.3, rw (p.1, p.2) (HasAnswered-unread (Unit {0}) ReadFault _ _ done.0 done.1 refl done.4))

pub returns-then-count-eq0-clause-session : goal.returns-then-count-eq0-clause-session
returns-then-count-eq0-clause-session g c =
    let done = c.reads.invariant in
    let last = c.finish.ensures.session in
    let none = rw (c.in-Some.is, c.if-count-eq0.true) at c.in_ok-count.ensures.bytes in
    let ended = rw c.in-Some.is at c.in_ok-count.ensures.end in (
      done.0,
      done.1 ++ last.0,
      rw (append-nil done.0) at (Consumes-trans _ _ _ _ _ done.2 none),
      Appends-trans _ _ _ _ _ done.3 last.1,
      session_at (Unit {0}) (IsAtEnd (g.I.Read.remaining c.read_some.new.reader)) c.finish.result done.0 (done.1 ++ last.0) (λ at_end. ended c.if-count-eq0.true) (last.2 done.0 done.1 done.4),
    )

pub returns-then-count-eq0-clause-end : goal.returns-then-count-eq0-clause-end
returns-then-count-eq0-clause-end g c =
    let last = rw c.in-Some.is at c.in_ok-count.ensures.end in
    on_ok c.finish.result (last c.if-count-eq0.true)

pub returns-in_err-take-clause-session : goal.returns-in_err-take-clause-session
returns-in_err-take-clause-session g c =
    let p = err_from_is_err_and c.from_residual-in_err-take.result c.from_residual-in_err-take.ensures.1 in
    let done = c.reads.invariant in
    let bytes = take c.in-Some.count c.read_some.new.chunk in
    let read = rw c.in-Some.is at c.in_ok-count.ensures.bytes in
    let taken = c.in_err-take.ensures.session in (
      done.0 ++ bytes,
      done.1 ++ taken.0,
      Consumes-trans _ _ _ _ _ done.2 read,
      Appends-trans _ _ _ _ _ done.3 taken.1,
      rw (p.1, p.2) (session_at {T = Unit {0}} ⊥ _ (Err _) _ _ (λ never. absurd never) (taken.2 (done.0 ++ bytes) done.1 (HasAnswered-read _ _ bytes done.0 done.1 done.4))),
    )

pub returns-in_err-flush-clause-session : goal.returns-in_err-flush-clause-session
returns-in_err-flush-clause-session g c =
    let p = err_from_is_err_and c.from_residual-in_err-flush.result c.from_residual-in_err-flush.ensures.1 in
    let done = c.reads.invariant in
    let bytes = take c.in-Some.count c.read_some.new.chunk in
    let read = rw c.in-Some.is at c.in_ok-count.ensures.bytes in
    let taken = c.in_ok-take.ensures.session in
    let stands = taken.2 (done.0 ++ bytes) done.1 (HasAnswered-read _ _ bytes done.0 done.1 done.4) in (
      done.0 ++ bytes,
      done.1 ++ taken.0,
      Consumes-trans _ _ _ _ _ done.2 read,
      Appends-kept _ _ _ _ (Appends-trans _ _ _ _ _ done.3 taken.1) c.in_err-flush.ensures.bytes,
      rw (p.1, p.2) (HasAnswered-unsent (Unit {0}) _ _ _ (done.0 ++ bytes) (done.1 ++ taken.0) stands),
    )

pub reads-preserved : goal.reads-preserved
reads-preserved g c =
    let done = c.reads.invariant in
    let bytes = take c.in-Some.count c.read_some.new.chunk in
    let read = rw c.in-Some.is at c.in_ok-count.ensures.bytes in
    let taken = c.in_ok-take.ensures.session in (
      done.0 ++ bytes,
      done.1 ++ taken.0,
      Consumes-trans _ _ _ _ _ done.2 read,
      Appends-kept _ _ _ _ (Appends-trans _ _ _ _ _ done.3 taken.1) c.in_ok-flush.ensures.bytes,
      taken.2 (done.0 ++ bytes) done.1 (HasAnswered-read _ _ bytes done.0 done.1 done.4),
      c.in_ok-flush.ensures.first ∙ c.in_ok-take.ensures.first ∙ done.5,
    )

pub returns-clause-session : goal.returns-clause-session
returns-clause-session g c =
    let done = c.reads.invariant in
    (done.0, done.1, done.2, done.3, HasAnswered-unread (Unit {0}) ReadFault _ _ done.0 done.1 refl done.4)
