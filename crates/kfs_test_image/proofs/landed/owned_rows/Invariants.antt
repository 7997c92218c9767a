use Rattle.std.proofs.Common.{◌≡◌, take}
use Rattle.kfs_test_image.proofs.landed.owned_rows.Given as goal

abbrev pub invariant-loop-row : goal.invariant-loop-row
invariant-loop-row g l = l.owned.items ≡ take l.row-index l.rows
