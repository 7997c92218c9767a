use Rattle.kfs_model.proofs.OrderKept.{step_keeps_order}
use Rattle.kfs_model.proofs.RowsMean.{row_means}
use Rattle.kfs_model.proofs.laws.what_a_row_means.Goals as goal

pub returns-clause-meaning : goal.returns-clause-meaning
returns-clause-meaning c s t row read is = row_means s t row read is

pub returns-clause-order : goal.returns-clause-order
returns-clause-order c s t row order read is = step_keeps_order s t row order read is
