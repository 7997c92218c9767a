use Rattle.std.proofs.Common.{[]}
use Rattle.std.proofs.KnownBytes.{Appends-nil, Consumes-nil}
use Rattle.kfs_server.proofs.ServingLemmas.Running.{made_run, not_made}
use Rattle.kfs_server.proofs.serving.running.run_new.Goals as goal

pub returns-in-Ok : goal.returns-in-Ok
returns-in-Ok g c =
    let disk = g.D.Disk in
    let (input, text, consumed, appended, run) = c.run.ensures in
    (input, text, consumed, appended, made_run g.row.A.Denot disk.seen disk.may_leave disk.moment disk.left_since c.args.desk c.args.disk c.in-Ok.kept c.run.result input text c.in-Ok.ensures.desk c.in-Ok.ensures.any_moment run)

pub returns-in-Err : goal.returns-in-Err
returns-in-Err g c =
    let disk = g.D.Disk in
    ([], [], Consumes-nil _, Appends-nil _, not_made g.row.A.Denot disk.seen disk.may_leave disk.moment disk.left_since c.args.desk c.args.disk c.in-Err.back.disk c.in-Err.back.why c.in-Err.ensures.any_moment_err)
