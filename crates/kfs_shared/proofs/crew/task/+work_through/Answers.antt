use Rattle.kfs_shared.proofs.CrewLemmas.Work.{both_worked}
use Rattle.kfs_shared.proofs.crew.task.+work_through.Goals as goal

pub returns-clause-worked : goal.returns-clause-worked
returns-clause-worked g t c = both_worked _ _ _ _ _ _ _ c.work_through-kept.new.tasks c.work_through.new.tasks c.work_through-kept.ensures.worked c.work_through.ensures.worked
