use Rattle.std.proofs.Common.{◌<◌, ◌^◌, All, take}
use Rattle.kfs_image.proofs.raw.spelled.tell_ids.Given as goal

abbrev pub invariant-loop-row : goal.invariant-loop-row
invariant-loop-row l = All (λ row. (row.header.uid < 2 ^ 32) × (row.header.gid < 2 ^ 32)) (take l.row-index l.rows)
