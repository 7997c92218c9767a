-- The links that are kept stay as they were.
use Rattle.kfs_judge_reads.proofs.reads.Recorder.follow.Goals as goal

pub invariant_of-self : goal.invariant_of-self
invariant_of-self g c = record {
  ways = record {
    links = λ state agrees. c.follow.ensures.links state.sight.parent (c.args.self.now.ways.links state agrees);
    stops = c.follow.ensures.stops;
  };
}
