-- The links that are kept are those of each state that agrees.
use Rattle.kfs_judge_reads.proofs.Ways.{links_over}
use Rattle.kfs_judge_reads.proofs.reads.Recorder.way.Goals as goal

pub returns : goal.returns
returns g c are follows state agrees parent same = c.way.ensures parent (links_over c.args.self.now.climbs are parent state.sight.parent follows same (c.args.self.now.ways.links state agrees).links)
