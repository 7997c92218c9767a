use Rattle.std.proofs.Common.{◌≡◌, take}
use Rattle.kfs_types.proofs.forms.kept_rows.Given as goal

abbrev pub invariant-loop-row : goal.invariant-loop-row
invariant-loop-row g l = l.kept.items ≡ take l.row-index l.rows
