-- The answer is that of the cell.
use Rattle.std.proofs.Common.{Ok}
use Rattle.kfs_judge_reads.proofs.OneLook.{looks_as}
use Rattle.kfs_judge_reads.proofs.reads.Recorder.header_kept.Goals as goal

pub returns : goal.returns
returns g c =
    let looks = looks_as c.args.self.now c.read_kept.new.self (Ok c.in_ok-answer.answer) c.header.ensures c.in_ok-answer.ensures.looks in
    record { goes = looks.goes; known = λ state agrees. c.header_in.ensures (state.sight.head c.args.number) (looks.known state agrees); among = looks.among }
