use Rattle.std.proofs.Common.{length, ◌+◌, ◌*◌}
use Rattle.kfs_maps.proofs.pages.change.+change_groups.Given as goal

abbrev pub decreases-change_groups : goal.decreases-change_groups
decreases-change_groups g l = 100 * length l.groups.now

abbrev pub decreases-change_group : goal.decreases-change_group
decreases-change_group g l = 100 * length l.rest.now + 99

abbrev pub decreases-change_pages : goal.decreases-change_pages
decreases-change_pages g l = 100 * length l.groups.now + 2 * length l.pages.now + 1

abbrev pub decreases-change_from : goal.decreases-change_from
decreases-change_from g l = 100 * length l.groups.now + 2 * length l.rest.now + 2
