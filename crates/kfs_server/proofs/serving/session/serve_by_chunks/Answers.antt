use Rattle.std.proofs.Common.{◌++◌, [], take, append-nil}
use Rattle.std.proofs.KnownBytes.{Appends-nil, Appends-trans, Consumes-kept, Consumes-nil, Consumes-trans}
use Rattle.std.proofs.lemmas.Result.{err_from_is_err_and}
use Rattle.kfs_server.proofs.ServingLemmas.Sessions.{answers_begin, answers_break, answers_cut, answers_end, answers_on, answers_stop, nothing_served}
use Rattle.kfs_server.proofs.serving.session.serve_by_chunks.Goals as goal

pub reads-init : goal.reads-init
reads-init g c =
    let disk = g.D.Disk in
    let kept = c.args.kept.now in
    record {
      kept = c.requires.kept;
      is_open = c.requires.open;
      room = c.requires.room;
      begun = c.new-frames.ensures.begun;
      session = (
        [],
        [],
        Consumes-nil _,
        Appends-nil _,
        answers_begin disk.may_leave disk.moment disk.left_since kept c.new-frames.result.begun c.new-frames.ensures.none
            (nothing_served disk.may_leave disk.moment disk.left_since disk.seen kept (λ files left. g.met.D.Disk.only_now kept.disk files left) (c.requires.kept c.requires.open)),
      );
    }

pub returns-in_err-count-clause-session : goal.returns-in_err-count-clause-session
returns-in_err-count-clause-session g c =
    let disk = g.D.Disk in
    let p = err_from_is_err_and c.from_residual.result c.from_residual.ensures.1 in
    let (input, text, consumed, appended, so_far) = c.reads.invariant.session in
    (input, text, Consumes-kept _ _ _ _ consumed c.in_err-count.ensures.bytes, appended, rw (p.1, p.2) (answers_break disk.may_leave disk.moment disk.left_since c.args.kept.now c.reads.kept c.reads.frames.begun input text c.reads.invariant.begun so_far))

pub returns-in_err-end-clause-session : goal.returns-in_err-end-clause-session
returns-in_err-end-clause-session g c =
    let disk = g.D.Disk in
    let p = err_from_is_err_and c.from_residual-in_err-end.result c.from_residual-in_err-end.ensures.1 in
    let (input, text, consumed, appended, so_far) = c.reads.invariant.session in
    let last = c.in_err-end.ensures so_far.left so_far.pending in
    let none = rw (c.in-Some.is, c.if-count-eq0.true) at c.in_ok-count.ensures.bytes in (
      input,
      text ++ last.0,
      rw (append-nil input) at (Consumes-trans _ _ _ _ _ consumed none),
      Appends-trans _ _ _ _ _ appended last.1,
      rw (p.1, p.2) (answers_cut disk.may_leave disk.moment disk.left_since c.args.kept.now c.reads.kept c.reads.frames.begun input text last.0 last.2.0 c.reads.invariant.begun so_far last.2.1),
    )

pub returns-then-count-eq0-clause-session : goal.returns-then-count-eq0-clause-session
returns-then-count-eq0-clause-session g c =
    let disk = g.D.Disk in
    let (input, text, consumed, appended, so_far) = c.reads.invariant.session in
    let last = c.in_ok-end.ensures so_far.left so_far.pending in
    let none = rw (c.in-Some.is, c.if-count-eq0.true) at c.in_ok-count.ensures.bytes in (
      input,
      text ++ last.0,
      rw (append-nil input) at (Consumes-trans _ _ _ _ _ consumed none),
      Appends-trans _ _ _ _ _ appended last.1,
      answers_end disk.may_leave disk.moment disk.left_since c.args.kept.now c.reads.kept c.reads.frames.begun input text last.0 c.reads.invariant.begun so_far last.2,
    )

pub returns-then-count-eq0-clause-end : goal.returns-then-count-eq0-clause-end
returns-then-count-eq0-clause-end g c =
    let last = rw c.in-Some.is at c.in_ok-count.ensures.end in
    last c.if-count-eq0.true

pub returns-in_err-answer_read-clause-session : goal.returns-in_err-answer_read-clause-session
returns-in_err-answer_read-clause-session g c =
    let disk = g.D.Disk in
    let p = err_from_is_err_and c.from_residual-in_err-answer_read.result c.from_residual-in_err-answer_read.ensures.1 in
    let (input, text, consumed, appended, so_far) = c.reads.invariant.session in
    let bytes = take c.in-Some.count c.read_some.new.chunk in
    let read = rw c.in-Some.is at c.in_ok-count.ensures.bytes in
    let step = c.take.ensures.read so_far.left so_far.pending in
    let wrote = c.in_err-answer_read.ensures.served step.frames step.are in (
      input ++ bytes,
      text ++ wrote.0,
      Consumes-trans _ _ _ _ _ consumed read,
      Appends-trans _ _ _ _ _ appended wrote.1,
      rw (p.1, p.2) (answers_stop disk.may_leave disk.moment disk.left_since c.in_err-answer_read.field-0.0 c.args.kept.now c.reads.kept c.answer_read.new.kept c.reads.frames.begun c.take.new.self.begun input text bytes wrote.0 c.take.new.out.items c.take.ensures.begun so_far step wrote.2),
    )

pub reads-preserved : goal.reads-preserved
reads-preserved g c =
    let disk = g.D.Disk in
    let (input, text, consumed, appended, so_far) = c.reads.invariant.session in
    let bytes = take c.in-Some.count c.read_some.new.chunk in
    let read = rw c.in-Some.is at c.in_ok-count.ensures.bytes in
    let step = c.take.ensures.read so_far.left so_far.pending in
    let wrote = c.in_ok-answer_read.ensures.served step.frames step.are in record {
      kept = c.answer_read.ensures.kept;
      is_open = c.in_ok-answer_read.ensures.open;
      room = c.clear.ensures;
      begun = c.take.ensures.begun;
      session = (
        input ++ bytes,
        text ++ wrote.0,
        Consumes-trans _ _ _ _ _ consumed read,
        Appends-trans _ _ _ _ _ appended wrote.1,
        answers_on disk.may_leave disk.moment disk.left_since c.args.kept.now c.reads.kept c.answer_read.new.kept c.reads.frames.begun c.take.new.self.begun input text bytes wrote.0 c.take.new.out.items so_far step wrote.2,
      );
    }

pub returns-clause-session : goal.returns-clause-session
returns-clause-session g c =
    let disk = g.D.Disk in
    let (input, text, consumed, appended, so_far) = c.reads.invariant.session in
    (input, text, consumed, appended, answers_break disk.may_leave disk.moment disk.left_since c.args.kept.now c.reads.kept c.reads.frames.begun input text c.reads.invariant.begun so_far)
