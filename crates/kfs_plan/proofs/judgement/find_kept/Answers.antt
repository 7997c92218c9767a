-- The same finding with names that are kept.
use Rattle.kfs_plan.proofs.SameFindings.{same_verdict, same_refusal, same_looks}
use Rattle.kfs_plan.proofs.judgement.find_kept.Goals as goal

pub returns-clause-known : goal.returns-clause-known
returns-clause-known g c = λ s agrees. same_verdict s _ _ _ c.in_ok-kept.ensures (c.in_ok-reads.ensures.known s agrees)

pub returns-clause-among : goal.returns-clause-among
returns-clause-among g c = same_looks _ _ _ _ _ c.in_ok-kept.ensures c.in_ok-reads.ensures.among

pub returns-clause-fault : goal.returns-clause-fault
returns-clause-fault g c = same_refusal _ _ c.in_ok-kept.ensures c.in_ok-reads.ensures.fault
