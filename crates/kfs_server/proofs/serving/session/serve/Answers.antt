use Rattle.std.proofs.Common.{[]}
use Rattle.std.proofs.KnownBytes.{Appends-nil, Consumes-nil}
use Rattle.std.proofs.lemmas.Result.{err_from_is_err_and}
use Rattle.kfs_server.proofs.ServingLemmas.Sessions.{nothing_answered, nothing_served}
use Rattle.kfs_server.proofs.serving.session.serve.Goals as goal

pub returns-in_err-chunk-clause-session : goal.returns-in_err-chunk-clause-session
returns-in_err-chunk-clause-session g c =
    let disk = g.D.Disk in
    let kept = c.args.kept.now in
    let p = err_from_is_err_and c.from_residual.result c.from_residual.ensures.1 in (
      [],
      [],
      Consumes-nil _,
      Appends-nil _,
      rw (p.1, p.2) (nothing_answered disk.may_leave disk.moment disk.left_since kept
          (nothing_served disk.may_leave disk.moment disk.left_since disk.seen kept (λ files left. g.met.D.Disk.only_now kept.disk files left) (c.requires.kept c.requires.open))),
    )

pub returns-in_err-room-clause-session : goal.returns-in_err-room-clause-session
returns-in_err-room-clause-session g c =
    let disk = g.D.Disk in
    let kept = c.args.kept.now in
    let p = err_from_is_err_and c.from_residual-in_err-room.result c.from_residual-in_err-room.ensures.1 in (
      [],
      [],
      Consumes-nil _,
      Appends-nil _,
      rw (p.1, p.2) (nothing_answered disk.may_leave disk.moment disk.left_since kept
          (nothing_served disk.may_leave disk.moment disk.left_since disk.seen kept (λ files left. g.met.D.Disk.only_now kept.disk files left) (c.requires.kept c.requires.open))),
    )
