use Rattle.std.proofs.Common.{length, ◌+◌, ◌*◌}
use Rattle.kfs_maps.proofs.chunks.change.+change_chunks.Given as goal

-- a part has up to 64 chunks, each with two calls
abbrev pub decreases-change_parts : goal.decreases-change_parts
decreases-change_parts g l = 132 * length l.parts.now

abbrev pub decreases-change_from_part : goal.decreases-change_from_part
decreases-change_from_part g l = 132 * length l.rest.now + 131

abbrev pub decreases-change_chunks : goal.decreases-change_chunks
decreases-change_chunks g l = 132 * length l.parts.now + 2 * length l.chunks.now + 1

abbrev pub decreases-change_from : goal.decreases-change_from
decreases-change_from g l = 132 * length l.parts.now + 2 * length l.rest.now + 2
