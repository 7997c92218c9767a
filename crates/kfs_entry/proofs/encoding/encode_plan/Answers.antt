use Rattle.std.proofs.Common.{refl}
use Rattle.std.proofs.lemmas.List.{length-map}
use Rattle.kfs_model.specs.Spelling.{name_row_bytes, node_row_bytes, piece_bytes}
use Rattle.kfs_types.specs.Views.{name_row_of, node_row_of, piece_of}
use Rattle.kfs_entry.proofs.RowLaws.{flat_map-map}
use Rattle.kfs_entry.proofs.encoding.encode_plan.Goals as goal

pub returns : goal.returns
returns g c =
    let plan = c.args.plan.now in
    rw (
      c.in_ok-write_rows-3.ensures,
      c.in_ok-write_rows-2.ensures,
      c.in_ok-write_rows.ensures,
      c.in_ok-write_plan.ensures,
      c.in_ok-out.ensures.items,
      c.as_slice-names.ensures,
      c.as_slice-nodes.ensures,
      c.as_slice-pieces.ensures,
      length-map plan.names name_row_of,
      length-map plan.nodes node_row_of,
      length-map plan.pieces piece_of,
      flat_map-map name_row_of name_row_bytes plan.names,
      flat_map-map node_row_of node_row_bytes plan.nodes,
      flat_map-map piece_of piece_bytes plan.pieces,
    ) refl
