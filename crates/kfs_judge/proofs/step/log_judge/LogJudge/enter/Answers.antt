-- Each entry's own function says it. What that of a Write says, it says of any bytes that are as many as the span has.
use Rattle.std.specs.Prelude.{replicate}
use Rattle.std.proofs.lemmas.List.{length-replicate}
use Rattle.kfs_judge.proofs.StepLemmas.Payloads.{of_payload}
use Rattle.kfs_judge.proofs.step.log_judge.LogJudge.enter.Goals as goal

pub returns-in-Write-clause-goes : goal.returns-in-Write-clause-goes
returns-in-Write-clause-goes g c = (c.write.ensures (replicate _ 0) (length-replicate _ 0)).goes

pub returns-in-Write-clause-client : goal.returns-in-Write-clause-client
returns-in-Write-clause-client g c = (c.write.ensures (replicate _ 0) (length-replicate _ 0)).client

pub returns-in-Write-clause-shifts : goal.returns-in-Write-clause-shifts
returns-in-Write-clause-shifts g c clean = ((c.write.ensures (replicate _ 0) (length-replicate _ 0)).change clean).shifts

pub returns-in-Write-clause-entered : goal.returns-in-Write-clause-entered
returns-in-Write-clause-entered g c source within = of_payload c.args.self.now c.write.new.self _ _ _ _ c.write.result source c.args.entry.now c.write.ensures c.saturating_sub.ensures within cc
