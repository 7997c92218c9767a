use Rattle.std.proofs.Common.{◌≡◌, List, [], length, rules, subst, sym}
use Rattle.std.specs.List.{AllZip}
use Rattle.kfs_server.specs.Frames.Begun.{IsFrameOf}
use Rattle.kfs_call.specs.declared.frame.Incoming.{Incoming}
use Rattle.std.proofs.KnownBytes.{Appends-nil}
use Rattle.std.proofs.lemmas.List.{nil_from_length}
use Rattle.std.proofs.lemmas.Result.{err_from_is_err_and}
use Rattle.kfs_server.proofs.ServingLemmas.Sessions.{no_frames, nothing_of, renewal_failed, renewed}
use Rattle.kfs_server.proofs.serving.session.answer_read.Goals as goal

pub returns-then-is_empty-clause-served : goal.returns-then-is_empty-clause-served
returns-then-is_empty-clause-served g c = λ frames are.
    let disk = g.D.Disk in
    let kept = c.args.kept.now in
    let zero : length c.args.room.now.group.items ≡ 0 = search rules in
    ([], Appends-nil _, no_frames disk.may_leave disk.moment disk.left_since disk.seen kept frames (nothing_of c.args.room.now.group.items frames (nil_from_length c.args.room.now.group.items zero) are) (λ files left. g.met.D.Disk.only_now kept.disk files left) (c.requires.kept c.requires.open))

pub returns-in_err-answer_frames-clause-served : goal.returns-in_err-answer_frames-clause-served
returns-in_err-answer_frames-clause-served g c = λ frames are.
    let p = err_from_is_err_and c.from_residual.result c.from_residual.ensures.1 in
    let wrote = c.in_err-answer_frames.ensures.served frames (subst (λ (xs : List (Incoming g.row.B.Denot)). AllZip IsFrameOf xs frames) (sym c.deref.ensures.value) are) in
    (wrote.0, wrote.1, rw (p.1, p.2) wrote.2)

pub returns-in_err-renew-clause-served : goal.returns-in_err-renew-clause-served
returns-in_err-renew-clause-served g c = λ frames are.
    let disk = g.D.Disk in
    let p = err_from_is_err_and c.from_residual-in_err-renew.result c.from_residual-in_err-renew.ensures.1 in
    let mid = c.answer_frames.new.kept in
    let new = c.renew.new.kept in
    let wrote = c.in_ok-answer_frames.ensures.served frames (subst (λ (xs : List (Incoming g.row.B.Denot)). AllZip IsFrameOf xs frames) (sym c.deref.ensures.value) are) in
    (wrote.0, wrote.1, rw (p.1, p.2) (renewal_failed disk.may_leave disk.moment disk.left_since c.args.kept.now mid new frames wrote.0 wrote.2 (λ f later left. g.met.D.Disk.counts_now new.disk (disk.moment mid.disk) f later left) c.renew.ensures.any_moment))

pub returns-clause-served : goal.returns-clause-served
returns-clause-served g c = λ frames are.
    let disk = g.D.Disk in
    let mid = c.answer_frames.new.kept in
    let new = c.renew.new.kept in
    let wrote = c.in_ok-answer_frames.ensures.served frames (subst (λ (xs : List (Incoming g.row.B.Denot)). AllZip IsFrameOf xs frames) (sym c.deref.ensures.value) are) in
    (wrote.0, wrote.1, renewed disk.may_leave disk.moment disk.left_since c.args.kept.now mid new frames wrote.0 wrote.2 c.renew.ensures.desk (λ f later left. g.met.D.Disk.counts_now new.disk (disk.moment mid.disk) f later left) c.renew.ensures.any_moment)
