use Rattle.std.proofs.Common.{rules, slice_index_or}
use Rattle.kfs_shared.specs.Passes.{seen}
use Rattle.kfs_shared.proofs.CrewLemmas.Crews.{seen_next, map_then, drop_at}
use Rattle.kfs_shared.proofs.crew.meeting.+meet_from.Goals as goal

pub returns-clause-seen : goal.returns-clause-seen
returns-clause-seen g t c = seen_next (λ w. seen w.pass) _ _ c.args.workers.now c.args.from (slice_index_or c.args.workers.now c.args.from c.index-workers-from.result) c.meet_one-met.new.worker c.meet_from.ensures.begins c.meet_one-met.ensures.seen (drop_at c.args.workers.now c.args.from c.index-workers-from.result (search rules)) c.meet_from.ensures.seen

pub returns-clause-duties : goal.returns-clause-duties
returns-clause-duties g t c = map_then (λ w. w.duty) c.args.workers.now c.meet_from.new.workers c.args.from c.index-workers-from.result c.meet_one-met.new.worker (search rules) c.meet_one-met.ensures.duty c.meet_from.ensures.duties
