use Rattle.std.proofs.Common.{◌≡◌, ◌++◌, length, Bor}
use Rattle.std.specs.List.{flat_map}
use Rattle.std.specs.Range.Bound.{bound_map}
use Rattle.kfs_image.specs.Encode.Rows.{entries_from, name_spelling}
use Rattle.kfs_image.proofs.encode.names.write_names.Given as goal

-- what is written and what is left to write are all
abbrev pub invariant-loop-run : goal.invariant-loop-run
invariant-loop-run g l =
    l.out.items ++ flat_map name_spelling (entries_from (bound_map (λ (x : Bor _). x.now) l.start) l.image.names) ≡ l.fn.out.items ++ flat_map name_spelling l.image.names.entries

abbrev pub decreases-loop-run : goal.decreases-loop-run
decreases-loop-run g l = length (entries_from (bound_map (λ (x : Bor _). x.now) l.start) l.image.names)
