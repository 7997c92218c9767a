-- The parent that is kept is that of each state that agrees.
use Rattle.std.proofs.Common.{sym, subst, ◌∙◌}
use Rattle.kfs_judge_reads.specs.Climbs.{Follows}
use Rattle.kfs_judge_reads.proofs.reads.Recorder.climb.Goals as goal

pub invariant_of-self : goal.invariant_of-self
invariant_of-self g c = record {
  ways = record {
    links = λ state agrees. c.keep.ensures.links state.sight.parent (c.in_ok-parent.ensures.looks.known state agrees ∙ c.in-Some.is) (c.parent.new.self.ways.links state agrees);
    stops = c.keep.ensures.stops;
  };
}

pub returns-in_err-keep-clause-follows : goal.returns-in_err-keep-clause-follows
returns-in_err-keep-clause-follows g c are still follows = c.in_err-keep.ensures.follows are still (subst (Follows are) (sym c.in_ok-parent.ensures.climbs) follows)

pub returns-in_ok-keep-clause-follows : goal.returns-in_ok-keep-clause-follows
returns-in_ok-keep-clause-follows g c are still follows = c.in_ok-keep.ensures.follows are still (subst (Follows are) (sym c.in_ok-parent.ensures.climbs) follows)
