use Rattle.std.proofs.Common.{length, ap, arith}
use Rattle.kfs_call.proofs.StateLaws.{groups_length}
use Rattle.kfs_call.proofs.codec.groups.len.Goals as goal

pub returns-clause-value : goal.returns-clause-value
returns-clause-value c = omega (arith, groups_length c.args.groups.now.items, ap length c.as_slice.ensures.value)
