use Rattle.std.proofs.Common.{◌≡◌, ◌++◌, take}
use Rattle.std.specs.List.{flat_map}
use Rattle.kfs_image.specs.Encode.Rows.{name_spelling}
use Rattle.kfs_image.proofs.encode.names.write_run.Given as goal

-- the rows of the names before this one are written
abbrev pub invariant-loop-dir : goal.invariant-loop-dir
invariant-loop-dir g l = l.out.items ≡ l.fn.out.items ++ flat_map name_spelling (take l.dir-index l.names)
