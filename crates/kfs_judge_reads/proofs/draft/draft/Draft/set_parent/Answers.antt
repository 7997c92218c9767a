-- The map of parents shows its change.
use Rattle.kfs_judge_reads.proofs.DraftLemmas.Overlays.{parent_shown}
use Rattle.kfs_judge_reads.proofs.draft.draft.Draft.set_parent.Goals as goal

pub returns-clause-shown : goal.returns-clause-shown
returns-clause-shown g c s = parent_shown c.args.self.now c.set.new.self c.args.number c.args.parent c.in_ok-set.ensures s

pub returns-clause-written : goal.returns-clause-written
returns-clause-written g c among written = record { names = written.names; heads = written.heads }

pub returns-clause-shifts : goal.returns-clause-shifts
returns-clause-shifts g c most bound = record { above = bound.above; below = bound.below }
