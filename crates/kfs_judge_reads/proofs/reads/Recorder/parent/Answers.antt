-- The answer is that of the cell.
use Rattle.std.proofs.Common.{Ok}
use Rattle.kfs_judge_reads.proofs.OneLook.{looks_as}
use Rattle.kfs_judge_reads.proofs.reads.Recorder.parent.Goals as goal

pub returns-clause-looks : goal.returns-clause-looks
returns-clause-looks g c =
    let looks = looks_as c.args.self.now c.read.new.self (Ok c.in_ok-answer.answer) c.parent.ensures c.in_ok-answer.ensures.looks in
    record { goes = looks.goes; known = λ state agrees. c.number_in.ensures (state.sight.parent c.args.number) (looks.known state agrees); among = looks.among }
