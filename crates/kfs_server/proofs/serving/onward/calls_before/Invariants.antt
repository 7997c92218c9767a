use Rattle.std.proofs.Common.{◌≡◌, take}
use Rattle.std.specs.List.{AllByRecursion}
use Rattle.kfs_server.specs.Asking.{HasNoLookUp}
use Rattle.kfs_server.proofs.serving.onward.calls_before.Given as goal

abbrev pub invariant-loop-incoming : goal.invariant-loop-incoming
invariant-loop-incoming g l = record {
  counted : l.count ≡ l.incoming-index;
  calls : AllByRecursion HasNoLookUp (take l.incoming-index l.frames);
}
