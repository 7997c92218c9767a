use Rattle.kfs_model.proofs.AnswersExist.{log_has_answer, plan_has_answer}
use Rattle.kfs_model.proofs.OneLogAnswer.{one_log_answer}
use Rattle.kfs_model.proofs.OnePlanAnswer.{one_plan_answer}
use Rattle.kfs_model.proofs.laws.bytes_have_one_reading.Goals as goal

pub returns-clause-log_exists : goal.returns-clause-log_exists
returns-clause-log_exists c = log_has_answer

pub returns-clause-log_is_one : goal.returns-clause-log_is_one
returns-clause-log_is_one c = one_log_answer

pub returns-clause-plan_exists : goal.returns-clause-plan_exists
returns-clause-plan_exists c = plan_has_answer

pub returns-clause-plan_is_one : goal.returns-clause-plan_is_one
returns-clause-plan_is_one c = one_plan_answer
