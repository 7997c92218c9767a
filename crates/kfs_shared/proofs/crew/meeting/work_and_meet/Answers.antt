use Rattle.std.proofs.Common.{rules}
use Rattle.kfs_shared.specs.Passes.{seen}
use Rattle.kfs_shared.proofs.CrewLemmas.Meetings.{passes, crew_achieved}
use Rattle.kfs_shared.proofs.CrewLemmas.Crews.{all_later}
use Rattle.kfs_shared.proofs.crew.meeting.work_and_meet.Goals as goal

pub meet_from-met-requires-clause-workers : goal.meet_from-met-requires-clause-workers
meet_from-met-requires-clause-workers g c = passes g.T.Duty.worked c.args.shared.now (seen c.args.pass) c.args.workers.now c.work_together.new.all c.work_together.ensures.worked c.requires.workers

pub returns-clause-achieved : goal.returns-clause-achieved
returns-clause-achieved g c = crew_achieved g.T.Duty.worked c.args.shared.now (seen c.args.pass) (seen c.meet.new.pass) c.args.workers.now c.work_together.new.all _ _ c.work_together.ensures.worked c.requires.workers (all_later (λ w. seen w.pass) _ (seen c.meet_from-met.result) c.work_together.new.all (search rules) c.meet_from-met.ensures.seen) c.meet_from-met.ensures.duties (search rules)
