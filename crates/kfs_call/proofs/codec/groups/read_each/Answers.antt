use Rattle.std.proofs.Common.{◌≡◌, length, drop, sym, ap, arith}
use Rattle.std.proofs.lemmas.List.{length_push}
use Rattle.kfs_model.proofs.Reading.{number32_read}
use Rattle.kfs_call.specs.StateReaders.{some_read}
use Rattle.kfs_call.proofs.MoveRows.{rows_turn, rows_stop, rows_end}
use Rattle.kfs_call.proofs.codec.groups.read_each.Goals as goal

pub returns-in_default-clause-value : goal.returns-in_default-clause-value
returns-in_default-clause-value c =
    sym (ap some_read (rows_stop number32_read 0 c.loop-k.k c.args.count c.loop-k.groups.items (drop c.loop-k.end c.args.source.now) _ c.loop-k-test.true (sym c.in_default.ensures.value) c.loop-k.invariant.behind))

pub loop-k-preserved : goal.loop-k-preserved
loop-k-preserved c = record {
  inside = c.in-Some.ensures.within;
  number = rw c.push.ensures.items (let n : length c.loop-k.groups.items ≡ c.loop-k.k = c.loop-k.invariant.number in omega (arith, length_push c.loop-k.groups.items c.in-Some.group));
  behind = rw c.push.ensures.items
      (rows_turn number32_read 0 c.loop-k.k c.args.count c.loop-k.groups.items _ (drop c.loop-k.end c.args.source.now) _ _ c.loop-k-test.true (sym c.in-Some.ensures.value) c.loop-k.invariant.behind);
}

pub returns-clause-value : goal.returns-clause-value
returns-clause-value c =
    sym (ap some_read (rows_end number32_read 0 c.loop-k.k c.args.count c.loop-k.groups.items (drop c.loop-k.end c.args.source.now) _ c.loop-k-test.false c.loop-k.invariant.behind))
