use Rattle.kfs_desk.proofs.HistoryLemmas.Runs.{least_is_run, run_is_least}
use Rattle.kfs_desk.proofs.laws.a_docket_is_a_run_of_its_calls.Goals as goal

pub returns-clause-only : goal.returns-clause-only
returns-clause-only c = λ s t docket leads. least_is_run s t docket leads.fit leads.least

pub returns-clause-each : goal.returns-clause-each
returns-clause-each c = run_is_least
