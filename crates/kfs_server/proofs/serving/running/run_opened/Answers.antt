use Rattle.std.proofs.Common.{[]}
use Rattle.std.proofs.KnownBytes.{Appends-nil, Consumes-nil}
use Rattle.kfs_server.proofs.ServingLemmas.Running.{not_opened, opened_run}
use Rattle.kfs_server.proofs.serving.running.run_opened.Goals as goal

pub returns-in-Ok : goal.returns-in-Ok
returns-in-Ok g c =
    let disk = g.D.Disk in
    let (input, text, consumed, appended, run) = c.run.ensures in
    (input, text, consumed, appended, opened_run g.row.A.Denot disk.seen disk.may_leave disk.moment disk.left_since c.args.disk c.in-Ok.kept c.run.result input text c.in-Ok.ensures.found c.in-Ok.ensures.any_moment run)

pub returns-in-Err : goal.returns-in-Err
returns-in-Err g c =
    let disk = g.D.Disk in
    ([], [], Consumes-nil _, Appends-nil _, not_opened g.row.A.Denot disk.seen disk.may_leave disk.moment disk.left_since c.args.disk c.in-Err.back.disk c.in-Err.back.why c.in-Err.ensures.due c.in-Err.ensures.any_moment_err)
