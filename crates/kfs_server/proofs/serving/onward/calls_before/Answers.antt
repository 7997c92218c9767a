use Rattle.std.proofs.Common.{rules, arith}
use Rattle.kfs_server.specs.Asking.{HasNoLookUp}
use Rattle.kfs_server.proofs.FramesLemmas.Reads.{all_taken}
use Rattle.kfs_server.proofs.serving.onward.calls_before.Goals as goal

pub loop-incoming-preserved : goal.loop-incoming-preserved
loop-incoming-preserved g c = record {
  counted = omega (arith, c.loop-incoming.invariant.counted);
  calls = all_taken HasNoLookUp c.args.frames.now c.loop-incoming.incoming-index c.incoming-item.result c.loop-incoming-test.true c.incoming-item.is c.loop-incoming.invariant.calls (search rules);
}
