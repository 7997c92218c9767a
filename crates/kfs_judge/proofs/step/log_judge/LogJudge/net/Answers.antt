-- What the first rows tell still holds after the second.
use Rattle.kfs_judge_reads.proofs.Recording.{goes_then, within_then}
use Rattle.kfs_judge.proofs.StepLemmas.Entered.{is_cut_off}
use Rattle.kfs_judge.proofs.step.log_judge.LogJudge.net.Goals as goal

pub returns-in_err-names-clause-looks : goal.returns-in_err-names-clause-looks
returns-in_err-names-clause-looks g c = is_cut_off c.args.self.now.draft _ c.in_err-names.ensures.goes _ c.from_residual.ensures.0

pub returns-in_err-nodes-clause-looks : goal.returns-in_err-nodes-clause-looks
returns-in_err-nodes-clause-looks g c = is_cut_off c.args.self.now.draft _ (goes_then c.in_ok-names.ensures.goes c.in_err-nodes.ensures.goes) _ c.from_residual-in_err-nodes.ensures.0

pub returns-clause-looks : goal.returns-clause-looks
returns-clause-looks g c = record {
  goes = goes_then c.in_ok-names.ensures.goes c.in_ok-nodes.ensures.goes;
  known = λ state agrees. record {
    names = c.in_ok-names.ensures.known state (c.in_ok-nodes.ensures.goes.grows state agrees);
    nodes = c.in_ok-nodes.ensures.known state agrees;
  };
  among = λ among written. within_then (c.in_ok-names.ensures.among among written) (c.in_ok-nodes.ensures.among among written);
}
