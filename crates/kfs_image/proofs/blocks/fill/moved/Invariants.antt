use Rattle.std.proofs.Common.{◌≡◌, ◌++◌, map}
use Rattle.std.specs.Vec.Iter.{into_iter_items}
use Rattle.kfs_image.specs.Blocks.Fill.{new_part, row_part}
use Rattle.kfs_image.proofs.blocks.fill.moved.Given as goal

abbrev pub invariant-loop-row : goal.invariant-loop-row
invariant-loop-row g l = record {
  ready : (goal.iterator-loop-row g).can_next l.row-iterator;
  finite : (goal.iterator-loop-row g).is_finite l.row-iterator;
  alike : map new_part l.written.items ++ map row_part (into_iter_items l.row-iterator) ≡ map row_part l.fn.rows.items;
}
