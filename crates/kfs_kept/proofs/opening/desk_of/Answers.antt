use Rattle.std.proofs.Common.{Ok}
use Rattle.kfs_kept.proofs.OneState.{never_refused, restored_is}
use Rattle.kfs_kept.proofs.opening.desk_of.Goals as goal

pub returns-in-Ok-clause-only : goal.returns-in-Ok-clause-only
returns-in-Ok-clause-only g c = λ s is. restored_is c.args.limit c.in-Ok.desk s (c.in-Ok.ensures.only (Ok s) is)

pub returns-in_default : goal.returns-in_default
returns-in_default g c = record {
  restored = tt;
  only = λ s is. tt;
  due = λ s is. never_refused c.in-Err.fault s c.in_default.not-OutOfMemory (c.in-Err.ensures.only (Ok s) is);
  why = tt;
}
