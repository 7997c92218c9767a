use Rattle.std.proofs.Common.{◌<◌, length, map, arith}
use Rattle.std.proofs.lemmas.List.{length-map}
use Rattle.std.proofs.lemmas.List.Elements.{recursion_from_All, All-map}
use Rattle.kfs_model.specs.Spelling.{IsNameRow, IsNodeRow, IsPiece}
use Rattle.kfs_types.specs.Views.{name_row_of, node_row_of, piece_of}
use Rattle.kfs_plan_maker.proofs.maker.encoded.Goals as goal

pub returns : goal.returns
returns g c =
    let plan = c.args.plan.now in
    let rows = c.tell_rows.ensures in
    let short = c.requires.short in
    let names : length (map name_row_of plan.names) < 65536 = omega (arith, length-map plan.names name_row_of, short.names) in
    let nodes : length (map node_row_of plan.nodes) < 65536 = omega (arith, length-map plan.nodes node_row_of, short.nodes) in
    let pieces : length (map piece_of plan.pieces) < 4294967296 = omega (arith, length-map plan.pieces piece_of, short.pieces) in (
      (
        (c.requires.version, names, nodes, pieces),
        recursion_from_All IsNameRow (map name_row_of plan.names) (All-map IsNameRow name_row_of plan.names rows.names),
        recursion_from_All IsNodeRow (map node_row_of plan.nodes) (All-map IsNodeRow node_row_of plan.nodes rows.nodes),
        recursion_from_All IsPiece (map piece_of plan.pieces) (All-map IsPiece piece_of plan.pieces rows.pieces),
      ),
      c.in_ok-bytes.ensures,
    )
