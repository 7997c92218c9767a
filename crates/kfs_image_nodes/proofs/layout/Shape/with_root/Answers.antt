use Rattle.kfs_image_nodes.specs.Rows.{heads_in, names_in}
use Rattle.kfs_image_nodes.proofs.FreshRows.{root_is_alone}
use Rattle.kfs_image_nodes.proofs.layout.Shape.with_root.Goals as goal

pub returns : goal.returns
returns g c =
    let rows = c.in_ok-rows.rows in
    root_is_alone (record { heads = heads_in rows; names = names_in rows }) c.in_ok-rows.ensures.heads c.in_ok-rows.ensures.names
