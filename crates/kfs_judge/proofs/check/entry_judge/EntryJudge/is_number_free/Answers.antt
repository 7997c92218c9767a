-- The header now is that of the draft, or the one that was read.
use Rattle.kfs_judge.proofs.check.entry_judge.EntryJudge.is_number_free.Goals as goal

pub returns : goal.returns
returns g c = record {
  goes = c.in_ok-before.ensures.goes;
  known = λ state agrees. cc (c.in_ok-before.ensures.known state agrees, c.header_over-now.ensures state (c.in_ok-before.ensures.known state agrees));
  among = c.in_ok-before.ensures.among;
}
