use Rattle.std.proofs.Common.{◌≡◌, ◌+◌}
use Rattle.kfs_image.proofs.encode.names.count_run.Given as goal

-- the names before this one are counted
abbrev pub invariant-loop-name : goal.invariant-loop-name
invariant-loop-name l = l.rows.count ≡ l.fn.earlier.count + l.name-index
