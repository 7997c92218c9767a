use Rattle.std.proofs.Common.{[]}
use Rattle.std.proofs.KnownBytes.{Appends-nil, Consumes-nil}
use Rattle.std.proofs.lemmas.Result.{err_from_is_err_and}
use Rattle.kfs_program.proofs.EngineLemmas.SessionLoops.{nothing-read}
use Rattle.kfs_program.proofs.sessions.engine.Goals as goal

pub returns-in_err-chunk-clause-session : goal.returns-in_err-chunk-clause-session
returns-in_err-chunk-clause-session g c =
    let p = err_from_is_err_and c.from_residual.result c.from_residual.ensures.1 in
    ([], [], Consumes-nil _, Appends-nil _, rw (p.1, p.2) (nothing-read (Unit {0}) _ _ c.in_err-chunk.ensures.fault))
