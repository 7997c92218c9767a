use Rattle.kfs_lease.proofs.PathParts.{parts_at, one_part}
use Rattle.kfs_lease.proofs.path.split_part.Goals as goal

pub returns-in-Some-clause-parts : goal.returns-in-Some-clause-parts
returns-in-Some-clause-parts c = parts_at c.args.bytes.now c.in-Some.place c.in-Some.ensures

pub returns-in-None-clause-parts : goal.returns-in-None-clause-parts
returns-in-None-clause-parts c = one_part c.args.bytes.now c.in-None.ensures
