use Rattle.std.proofs.Common.{◌≡◌, ◌++◌, map, drop}
use Rattle.kfs_types.specs.Views.{name_row_of}
use Rattle.kfs_shape.specs.Links.{link_of}
use Rattle.kfs_shape.proofs.links.links_of.Given as goal

abbrev pub invariant-loop-row : goal.invariant-loop-row
invariant-loop-row g l = l.links.items ++ map (λ row. link_of (name_row_of row)) (drop l.row-index l.rows) ≡ map (λ row. link_of (name_row_of row)) l.rows
