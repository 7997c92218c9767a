use Rattle.std.proofs.Common.{refl}
use Rattle.kfs_desk.specs.Beginning.{beginning_of}
use Rattle.kfs_shared.proofs.TurnsLemmas.Lists.{starts_same}
use Rattle.kfs_shared.specs.Passes.{started, seen, ended}
use Rattle.kfs_shared.proofs.BatchLemmas.OneTurn.{view_begins}
use Rattle.kfs_shared.proofs.batch.together.view_of.Goals as goal

pub returns-in-Some-clause-begins : goal.returns-in-Some-clause-begins
returns-in-Some-clause-begins g c = starts_same (seen c.args.pass.now) (seen c.args.pass.now) refl

pub returns-in-None-clause-begins : goal.returns-in-None-clause-begins
returns-in-None-clause-begins g c = view_begins (started beginning_of c.args.shared.now) (seen c.args.pass.now) (seen c.view.new.pass) (ended c.view.new.pass) c.view.result c.view.ensures.ok c.view.ensures.err
