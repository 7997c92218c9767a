use Rattle.std.proofs.Common.{◌≡◌, ◌++◌, drop, map}
use Rattle.std.specs.List.{AllByRecursion}
use Rattle.kfs_pieces.specs.Made.{IsFit, made}
use Rattle.kfs_pieces.specs.Sizes.{growths, length_after, reach_in}
use Rattle.kfs_pieces.proofs.log.ranges_of.Given as goal

abbrev pub invariant-loop-size : goal.invariant-loop-size
invariant-loop-size g l = record {
  made : l.out.items ++ growths (drop l.size-index l.sizes) ≡ growths l.sizes;
  fit : AllByRecursion IsFit l.out.items;
}

abbrev pub invariant-loop-index : goal.invariant-loop-index
invariant-loop-index g l = record {
  made : l.out.items ++ made (length_after l.sizes) l.index (map reach_in (drop l.index l.entries)) ≡ growths l.sizes ++ made (length_after l.sizes) 0 (map reach_in l.entries);
  fit : AllByRecursion IsFit l.out.items;
}
