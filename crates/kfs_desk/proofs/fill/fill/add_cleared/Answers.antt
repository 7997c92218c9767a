use Rattle.std.proofs.Common.{◌++◌, map, ap, ◌∙◌}
use Rattle.kfs_pieces.specs.declared.blocks.BlockRange.{BlockRange}
use Rattle.kfs_desk.specs.Fill.FillOf.{run_of}
use Rattle.kfs_desk.proofs.FillLemmas.Pushed.{pushed_one, pushed_all}
use Rattle.kfs_desk.proofs.fill.fill.add_cleared.Goals as goal

abbrev none : BlockRange
none = record { first = 0; end = 0 }

pub loop-range-preserved : goal.loop-range-preserved
loop-range-preserved g c =
    pushed_one (run_of c.args.number) c.deref-range-items.result.now c.loop-range.range-index c.loop-range.out.items _ none c.push.new.self.items c.loop-range-test.true c.in_ok-push.ensures.items c.loop-range.invariant

pub returns : goal.returns
returns g c =
    pushed_all (run_of c.args.number) c.deref-range-items.result.now c.loop-range.range-index c.loop-range.out.items _ c.loop-range-test.false c.loop-range.invariant
    ∙ ap (λ ranges. c.args.out.now.items ++ map (run_of c.args.number) ranges) (c.deref-range-items.ensures.value ∙ c.in_ok-ranges.ensures)
