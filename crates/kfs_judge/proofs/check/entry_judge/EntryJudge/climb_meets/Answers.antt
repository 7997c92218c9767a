-- A node is met where the climb stands, or behind the next part of its way.
use Rattle.std.proofs.Common.{◌≡◌, ◌+◌, ◌-◌, ◌<◌, ◌≤◌, suc, arith, ◌∙◌, sym, subst, refl}
use Rattle.std.specs.Prelude.{IfSome}
use Rattle.kfs_model.specs.Sight.{climb_limit}
use Rattle.kfs_judge_reads.specs.declared.climbs.Way.{Way}
use Rattle.kfs_judge_reads.specs.Reads.{Within}
use Rattle.kfs_judge_reads.specs.Climbs.{climbed_cells}
use Rattle.kfs_judge.specs.Check.Checks.{parent_in, LeadsOn}
use Rattle.kfs_judge_reads.proofs.Climbing.{climb-meets_here, climb-ends, climb-at_top, climbed_here}
use Rattle.kfs_judge_reads.proofs.Ways.{climb_meets_behind, climbed_behind_way}
use Rattle.kfs_judge_reads.proofs.Recording.{cut_short, goes_then, within_same, within_then, within_wider}
use Rattle.kfs_judge.proofs.check.entry_judge.EntryJudge.climb_meets.Goals as goal

pub returns-in_err-follow : goal.returns-in_err-follow
returns-in_err-follow g c = cut_short c.in_err-follow.ensures.goes _ _ _ c.from_residual.ensures.0

pub loop-left-init : goal.loop-left-init
loop-left-init g c = record {
  goes = c.in_ok-follow.ensures.goes;
  climb = λ state agrees. refl;
  part = λ state agrees cell there. there;
  among = λ state agrees.
      let cells = climbed_cells (parent_in c.args.self.now state) climb_limit c.args.dir in
      subst (λ entries. Within c.args.recorder.now.reads.entries entries cells) (sym c.in_ok-follow.ensures.reads) (within_same c.args.recorder.now.reads.entries cells);
  stops = record {
    stops = λ place inside is. c.in_ok-follow.ensures.follows.stops place inside (c.moved.ensures _ ∙ is);
    taken = λ n is. sym (c.moved.ensures n) ∙ c.in_ok-follow.ensures.follows.taken n is;
  };
}

pub returns-then-current-node : goal.returns-then-current-node
returns-then-current-node g c = record {
  goes = c.loop-left.invariant.goes;
  known = λ state agrees. c.loop-left.invariant.climb state agrees ∙ climb-meets_here (parent_in c.args.self.now state) c.loop-left.left c.args.node c.loop-left.current c.if-current-node.true;
  among = c.loop-left.invariant.among;
}

pub returns-in_err-way : goal.returns-in_err-way
returns-in_err-way g c = cut_short (goes_then c.loop-left.invariant.goes c.in_err-way.ensures.looks.goes) _ _ _ c.from_residual-in_err-way.ensures.0

pub returns-in_default : goal.returns-in_default
returns-in_default g c =
    let one_more : c.loop-left.left ≡ suc (c.loop-left.left - 1) = omega (arith, c.loop-left-test.true) in
    record {
      goes = goes_then c.loop-left.invariant.goes c.in_ok-way.ensures.looks.goes;
      known = λ state agrees.
          let top = subst (λ way. LeadsOn c.args.self.now c.args.node c.loop-left.current way state) c.in_default.is (c.in_ok-way.ensures.looks.known state agrees) in
          c.loop-left.invariant.climb state (c.in_ok-way.ensures.looks.goes.grows state agrees)
          ∙ climb-at_top (parent_in c.args.self.now state) c.loop-left.left (c.loop-left.left - 1) c.args.node c.loop-left.current one_more c.if-current-node.false top;
      among = λ state agrees.
          let before = c.in_ok-way.ensures.looks.goes.grows state agrees in
          let parent = parent_in c.args.self.now state in
          within_then (c.loop-left.invariant.among state before)
          (within_wider (climbed_here parent c.loop-left.left c.loop-left.current (climbed_cells parent climb_limit c.args.dir) (c.loop-left.invariant.part state before)) c.in_ok-way.ensures.looks.among);
    }

pub loop-left-preserved : goal.loop-left-preserved
loop-left-preserved g c =
    let steps = c.in-Some.way.steps in
    let last = c.in-Some.way.last in
    let fits = subst (λ way. IfSome way (λ (w : Way). (0 < w.steps) × (w.steps ≤ c.loop-left.left))) c.in-Some.is c.in_ok-way.ensures.steps in
    let both : c.loop-left.left ≡ steps + (c.loop-left.left - steps) = omega (arith, fits.1) in
    record {
      goes = goes_then c.loop-left.invariant.goes c.in_ok-way.ensures.looks.goes;
      climb = λ state agrees.
          let way = subst (λ way. LeadsOn c.args.self.now c.args.node c.loop-left.current way state) c.in-Some.is (c.in_ok-way.ensures.looks.known state agrees) in
          c.loop-left.invariant.climb state (c.in_ok-way.ensures.looks.goes.grows state agrees)
          ∙ climb_meets_behind (parent_in c.args.self.now state) c.loop-left.left c.args.node steps (c.loop-left.left - steps) c.loop-left.current last both way;
      part = λ state agrees cell there.
          let way = subst (λ way. LeadsOn c.args.self.now c.args.node c.loop-left.current way state) c.in-Some.is (c.in_ok-way.ensures.looks.known state agrees) in
          c.loop-left.invariant.part state (c.in_ok-way.ensures.looks.goes.grows state agrees) cell
          (climbed_behind_way (parent_in c.args.self.now state) c.loop-left.left c.args.node steps (c.loop-left.left - steps) c.loop-left.current last both way cell there);
      among = λ state agrees.
          let before = c.in_ok-way.ensures.looks.goes.grows state agrees in
          let parent = parent_in c.args.self.now state in
          within_then (c.loop-left.invariant.among state before)
          (within_wider (climbed_here parent c.loop-left.left c.loop-left.current (climbed_cells parent climb_limit c.args.dir) (c.loop-left.invariant.part state before)) c.in_ok-way.ensures.looks.among);
      stops = c.in_ok-way.ensures.stops;
    }

pub returns : goal.returns
returns g c = record {
  goes = c.loop-left.invariant.goes;
  known = λ state agrees.
      c.loop-left.invariant.climb state agrees ∙ climb-ends (parent_in c.args.self.now state) c.loop-left.left c.args.node c.loop-left.current (omega (arith, c.loop-left-test.false));
  among = c.loop-left.invariant.among;
}
