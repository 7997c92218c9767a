use Rattle.std.proofs.Common.{[], Err, inl, inr, ⊎_elim, ap, sym, subst}
use Rattle.std.proofs.KnownBytes.{Appends-nil, Consumes-nil}
use Rattle.kfs_kept.specs.Standing.{StandFor}
use Rattle.kfs_kept.specs.declared.kept.Kept.{Kept}
use Rattle.kfs_server.proofs.ServingLemmas.Running.{admitted_run, never_both, not_admitted, not_opened}
use Rattle.kfs_server.proofs.serving.running.run_admitting.Goals as goal

pub returns-in-Ok-admit : goal.returns-in-Ok-admit
returns-in-Ok-admit g c =
    let disk = g.D.Disk in
    let kept = c.in-Ok.kept in
    let (input, text, consumed, appended, run) = c.run.ensures in (
      input,
      text,
      consumed,
      appended,
      admitted_run g.row.A.Denot disk.seen disk.may_leave disk.moment disk.left_since c.args.disk kept.disk kept.desk.state c.args.clients.now c.in-Ok.ensures.found c.in-Ok.ensures.any_moment
          c.admit.new.self c.run.result input text c.in-Ok-admit.ensures.admits c.in-Ok-admit.ensures.state (c.admit.ensures.any_moment c.in-Ok.ensures.open) run,
    )

pub returns-in-Err-admit : goal.returns-in-Err-admit
returns-in-Err-admit g c =
    let disk = g.D.Disk in
    let kept = c.in-Ok.kept in
    let stood = (c.in-Ok.ensures.kept c.in-Ok.ensures.open).stand in (
      [],
      [],
      Consumes-nil _,
      Appends-nil _,
      not_admitted g.row.A.Denot disk.seen disk.may_leave disk.moment disk.left_since c.args.disk kept.disk kept.desk.state c.args.clients.now c.in-Ok.ensures.found c.in-Ok.ensures.any_moment
          c.admit.new.self.disk c.in-Err-admit.why c.in-Err-admit.ensures.why
          (λ is. never_both kept.is_open c.in-Ok.ensures.open (c.in-Err-admit.ensures.closed.0 (ap Err is)))
          (⊎_elim (λ failed. inl failed) (λ same. inr (subst (λ (k : Kept g.row.A.Denot _). StandFor (disk.seen k.disk) kept.desk.state) (sym same) stood)) c.in-Err-admit.ensures.same)
          (c.admit.ensures.any_moment c.in-Ok.ensures.open),
    )

pub returns-in-Err : goal.returns-in-Err
returns-in-Err g c =
    let disk = g.D.Disk in
    ([], [], Consumes-nil _, Appends-nil _, not_opened g.row.A.Denot disk.seen disk.may_leave disk.moment disk.left_since c.args.disk c.in-Err.back.disk c.in-Err.back.why c.in-Err.ensures.due c.in-Err.ensures.any_moment_err)
