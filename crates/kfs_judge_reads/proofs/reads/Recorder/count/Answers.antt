-- The answer is that of the cell.
use Rattle.std.proofs.Common.{Ok}
use Rattle.kfs_judge_reads.proofs.OneLook.{looks_as}
use Rattle.kfs_judge_reads.proofs.reads.Recorder.count.Goals as goal

pub returns : goal.returns
returns g c =
    let looks = looks_as c.args.self.now c.read.new.self (Ok c.in_ok-answer.answer) c.count.ensures c.in_ok-answer.ensures.looks in
    record { goes = looks.goes; known = λ state agrees. c.count_in.ensures (state.sight.count c.args.dir) (looks.known state agrees); among = looks.among }
