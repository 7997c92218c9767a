use Rattle.std.proofs.Common.{take}
use Rattle.std.specs.List.{AllZip}
use Rattle.kfs_call.specs.Asking.{IsDecidedFor}
use Rattle.kfs_call.proofs.asking.decide_all.Given as goal

abbrev pub invariant-loop-incoming : goal.invariant-loop-incoming
invariant-loop-incoming g l = AllZip IsDecidedFor (take l.incoming-index l.group) l.decided.items
