use Rattle.kfs_model.proofs.RightPlan.{right_from_none, none_from_right}
use Rattle.kfs_model.proofs.laws.right_plan_has_no_wrong_row.Goals as goal

pub returns-clause-only : goal.returns-clause-only
returns-clause-only c before after plan none = right_from_none before after plan none

pub returns-clause-found : goal.returns-clause-found
returns-clause-found c before after plan right = none_from_right before after plan right
