-- The desk is kept.
use Rattle.kfs_journal.specs.Memory.{memory_may_leave, memory_seen}
use Rattle.kfs_kept.specs.Keeping.{IsKept}
use Rattle.kfs_test_kept.proofs.keeping.Keeper.make_steps.Given as goal

abbrev pub invariant-steps : goal.invariant-steps
invariant-steps l = IsKept memory_seen memory_may_leave l.self.kept
