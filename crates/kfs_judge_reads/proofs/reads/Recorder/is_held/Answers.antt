-- The answer is that of the cell.
use Rattle.std.proofs.Common.{Ok}
use Rattle.kfs_judge_reads.proofs.OneLook.{looks_as}
use Rattle.kfs_judge_reads.proofs.reads.Recorder.is_held.Goals as goal

pub returns : goal.returns
returns g c =
    let looks = looks_as c.args.self.now c.read.new.self (Ok c.in_ok-answer.answer) c.lease.ensures c.in_ok-answer.ensures.looks in
    record { goes = looks.goes; known = λ state agrees. c.held_in.ensures (state.held c.args.number) (looks.known state agrees); among = looks.among }
