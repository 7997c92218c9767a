use Rattle.kfs_model.proofs.OrderKept.{step_keeps_order, docket_keeps_order}
use Rattle.kfs_model.proofs.laws.a_step_keeps_order.Goals as goal

pub returns-clause-step : goal.returns-clause-step
returns-clause-step c row read s t ordered is = step_keeps_order s t row ordered read is

pub returns-clause-docket : goal.returns-clause-docket
returns-clause-docket c docket read opened last ordered is = docket_keeps_order opened last docket ordered read is
