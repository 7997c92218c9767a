-- The fault is a text by computation.
use Rattle.std.specs.Prelude.{refl}
use Rattle.std.specs.Fmt.{digits}
use Rattle.kfs_program.proofs.sessions.examples.openings.Goals as goal

pub returns-clause-twice : goal.returns-clause-twice
unfolding digits
returns-clause-twice c = refl
