use Rattle.std.proofs.Common.{◌<◌, length, map, refl, ◌∙◌, arith}
use Rattle.kfs_types.specs.Views.{piece_of}
use Rattle.kfs_model.specs.Device.ShownTree.{shown_tree}
use Rattle.kfs_desk.specs.Fill.Bytes.{entries_of, pieces_of}
use Rattle.kfs_desk.proofs.FillLemmas.BlockRows.{next_row}
use Rattle.kfs_desk.proofs.FillLemmas.Narrowed.{left_behind, bytes_there}
use Rattle.kfs_desk.proofs.fill.rows.block_rows.Goals as goal

pub loop-index-preserved : goal.loop-index-preserved
loop-index-preserved g c =
    let tree = shown_tree c.args.image.now in
    let entries = entries_of c.args.log.now in
    let pieces = pieces_of c.args.log.now in
    let blocks = c.args.blocks.now in
    let places = c.args.places.now in
    let index = c.loop-index.index in
    let left = map piece_of c.loop-index.pieces.now in
    let now = map piece_of c.reaching-pieces.result.now in
    let in_places : index < length places = omega arith in
    record {
      rows =
          next_row tree entries pieces blocks places c.loop-index.rows.items c.push.new.self.items index (0, 0) 0 _ c.in_ok-push.ensures.items c.loop-index-test.true in_places refl refl
          (c.in_ok-bytes.ensures ∙ bytes_there blocks index (0, 0) pieces left now c.from-start.result c.loop-index-test.true c.loop-index.invariant.left c.from-start.ensures c.reaching-pieces.ensures tree entries (map piece_of c.beginning.result.now) c.beginning.ensures)
          c.loop-index.invariant.rows;
      left = left_behind blocks index (0, 0) pieces left now c.from-start.result c.loop-index-test.true c.loop-index.invariant.left c.from-start.ensures c.reaching-pieces.ensures;
    }
