-- A directory whose parent no entry has written may be passed.
use Rattle.std.proofs.Common.{sym, ap, ◌∙◌}
use Rattle.std.specs.Prelude.{is_some}
use Rattle.kfs_judge.specs.Check.Checks.{is_moved_in}
use Rattle.kfs_judge.proofs.check.entry_judge.EntryJudge.parent.Goals as goal

pub returns-in-None-clause-stops : goal.returns-in-None-clause-stops
returns-in-None-clause-stops g c = c.climb.ensures.follows (is_moved_in c.args.self.now) (ap is_some (sym c.parent.ensures ∙ c.in-None.is)) (record { stops = c.requires.stops; taken = c.requires.taken })
