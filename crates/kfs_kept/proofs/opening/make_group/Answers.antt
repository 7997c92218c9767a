use Rattle.std.proofs.Common.{subst}
use Rattle.kfs_kept.specs.Calls.Again.{WantsRoom}
use Rattle.kfs_kept.proofs.opening.make_group.Goals as goal

pub returns-in-Ok-clause-only : goal.returns-in-Ok-clause-only
returns-in-Ok-clause-only g c = λ t leads. c.in-Ok.ensures.only t leads

pub returns-in-Err-BadGroup-clause-due : goal.returns-in-Err-BadGroup-clause-due
returns-in-Err-BadGroup-clause-due g c = λ t leads. subst WantsRoom c.in-Err-BadGroup.field-0-is (c.in-Err-BadGroup.ensures.due t leads)

pub returns-in-Err-Differs-clause-due : goal.returns-in-Err-Differs-clause-due
returns-in-Err-Differs-clause-due g c = λ t leads. subst WantsRoom c.in-Err-Differs.field-0-is (c.in-Err-Differs.ensures.due t leads)
