use Rattle.std.proofs.Common.{drop, sym}
use Rattle.kfs_call.specs.Readers.{move_read}
use Rattle.kfs_call.proofs.MoveRows.{rows_turn, rows_stop, rows_end}
use Rattle.kfs_call.proofs.codec.moved.read.Goals as goal

pub returns-in_default-clause-value : goal.returns-in_default-clause-value
returns-in_default-clause-value g c =
    let source = c.args.source.now in
    rw c.from.ensures (rows_stop move_read 2 c.loop-k.k c.args.count c.loop-k.moves.items (drop c.loop-k.end source) _ c.loop-k-test.true (sym c.in_default.ensures.value) c.loop-k.invariant.behind)

pub loop-k-preserved : goal.loop-k-preserved
loop-k-preserved g c =
    record {
      inside = c.in-Some.ensures.within;
      behind = rw c.in_ok-push.ensures.items
          (rows_turn move_read 2 c.loop-k.k c.args.count c.loop-k.moves.items _ (drop c.loop-k.end c.args.source.now) _ _ c.loop-k-test.true (sym c.in-Some.ensures.value) c.loop-k.invariant.behind);
    }

pub returns-clause-value : goal.returns-clause-value
returns-clause-value g c =
    rows_end move_read 2 c.loop-k.k c.args.count c.loop-k.moves.items (drop c.loop-k.end c.args.source.now) _ c.loop-k-test.false c.loop-k.invariant.behind
