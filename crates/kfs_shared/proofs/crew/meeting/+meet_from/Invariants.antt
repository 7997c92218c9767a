use Rattle.std.proofs.Common.{length, ◌-◌}
use Rattle.kfs_shared.proofs.crew.meeting.+meet_from.Given as goal

abbrev pub decreases-meet_from : goal.decreases-meet_from
decreases-meet_from g l = length l.workers.now - l.from
