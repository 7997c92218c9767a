use Rattle.std.proofs.Common.{take}
use Rattle.kfs_journal.specs.Memory.{memory_start}
use Rattle.kfs_journal.specs.Tear.{wholes, torn_files, AreReplayed}
use Rattle.kfs_journal.proofs.memory.MemoryDisk.replayed.Given as goal

abbrev pub invariant-loop-call : goal.invariant-loop-call
invariant-loop-call l = AreReplayed (memory_start l.self) (take l.call-index l.calls) (wholes l.replays) (torn_files l.replays)
