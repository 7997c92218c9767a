use Rattle.std.proofs.Common.{◌∙◌}
use Rattle.kfs_journal.specs.Memory.{memory_start}
use Rattle.kfs_journal.proofs.TornCalls.{replay_begun, replayed_next}
use Rattle.kfs_journal.proofs.memory.MemoryDisk.replayed.Goals as goal

pub loop-call-init : goal.loop-call-init
loop-call-init c =
    replay_begun (memory_start c.args.self.now) _ _ (c.in_ok-replays.ensures.whole ∙ (λ i. (c.deref.ensures.value i, c.deref-2.ensures.value i))) (c.in_ok-replays.ensures.torn ∙ (λ i. (c.deref.ensures.value i, c.deref-2.ensures.value i)))

pub loop-call-preserved : goal.loop-call-preserved
loop-call-preserved c =
    replayed_next (memory_start c.args.self.now) _ c.loop-call.call-index c.call-item.result _ _ _ _ c.loop-call-test.true c.call-item.is c.loop-call.invariant c.in_ok-make.ensures.whole c.in_ok-make.ensures.torn
