-- Where no step is kept, each is right.
use Rattle.kfs_judge_reads.proofs.reads.Recorder.new.Goals as goal

pub invariant_of-result : goal.invariant_of-result
invariant_of-result g c = record { ways = record { links = λ state agrees. c.new-2.ensures.links state.sight.parent; stops = c.new-2.ensures.stops } }
