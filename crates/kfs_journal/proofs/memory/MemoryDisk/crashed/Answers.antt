use Rattle.std.proofs.Common.{take, sym, subst}
use Rattle.kfs_journal.specs.Disk.{Files}
use Rattle.kfs_journal.specs.Memory.{Reaches, memory_start}
use Rattle.kfs_journal.proofs.TornCalls.{torn_is_left, left_since}
use Rattle.kfs_journal.proofs.memory.MemoryDisk.crashed.Goals as goal

pub returns-clause-left : goal.returns-clause-left
returns-clause-left c =
    let calls = c.args.self.now.calls.items in
    let start = memory_start c.args.self.now in
    subst (λ (f : Files). Reaches start start (take c.args.moment calls) f) (sym c.new.ensures.seen) (torn_is_left start (take c.args.moment calls) _ _ c.in_ok-first.ensures)

pub returns-clause-since : goal.returns-clause-since
returns-clause-since c =
    let calls = c.args.self.now.calls.items in
    let start = memory_start c.args.self.now in
    left_since start calls c.args.moment _ (subst (λ (f : Files). Reaches start start (take c.args.moment calls) f) (sym c.new.ensures.seen) (torn_is_left start (take c.args.moment calls) _ _ c.in_ok-first.ensures))
