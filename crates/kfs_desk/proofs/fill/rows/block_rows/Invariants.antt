use Rattle.std.proofs.Common.{take, drop, map}
use Rattle.kfs_types.specs.Views.{piece_of}
use Rattle.kfs_model.specs.Device.ShownTree.{shown_tree}
use Rattle.kfs_desk.specs.Fill.Bytes.{entries_of, pieces_of}
use Rattle.kfs_desk.specs.Fill.Fill.{AreRowsOf}
use Rattle.kfs_desk.proofs.FillLemmas.Narrowed.{AreLeft}
use Rattle.kfs_desk.proofs.fill.rows.block_rows.Given as goal

abbrev pub invariant-loop-index : goal.invariant-loop-index
invariant-loop-index g l = record {
  rows : AreRowsOf (shown_tree l.image) (entries_of l.log) (pieces_of l.log) (take l.index l.blocks) (take l.index l.places) l.rows.items;
  left : AreLeft (drop l.index l.blocks) (pieces_of l.log) (map piece_of l.pieces);
}
