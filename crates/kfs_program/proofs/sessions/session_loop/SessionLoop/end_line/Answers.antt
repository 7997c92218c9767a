use Rattle.std.proofs.Common.{[]}
use Rattle.std.proofs.KnownBytes.{Appends-nil}
use Rattle.std.proofs.lemmas.Result.{err_from_is_err_and}
use Rattle.kfs_program.proofs.sessions.session_loop.SessionLoop.end_line.Goals as goal

pub returns-in_err-keep-clause-session : goal.returns-in_err-keep-clause-session
returns-in_err-keep-clause-session g c =
    let p = err_from_is_err_and c.from_residual.result c.from_residual.ensures.1 in
    ([], Appends-nil _, rw (p.1, p.2) c.in_err-keep.ensures.line.0)
