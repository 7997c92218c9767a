-- Nothing is remembered.
use Rattle.kfs_judge_reads.proofs.looks.Looks.new.Goals as goal

pub invariant_of-result : goal.invariant_of-result
invariant_of-result g c = record {
  headers_are_right = λ number header there. absurd (c.none.ensures number header there);
  names_are_right = λ key number there. absurd (c.none-2.ensures key number there);
}
