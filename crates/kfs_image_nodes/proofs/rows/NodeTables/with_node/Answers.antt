use Rattle.std.proofs.Common.{◌≡◌, ap, ◌∙◌}
use Rattle.kfs_model.specs.Table.{empty}
use Rattle.kfs_model.specs.Tree.{name_order}
use Rattle.kfs_maps.specs.Chunks.Tables.{table}
use Rattle.kfs_image_nodes.specs.Indexes.{by_node}
use Rattle.kfs_image_nodes.specs.Rows.{heads_of}
use Rattle.kfs_image_nodes.proofs.Indexes.{no_names, nothing_counted}
use Rattle.kfs_image_nodes.proofs.NodeEdits.{one_head, no_heads}
use Rattle.kfs_image_nodes.proofs.rows.NodeTables.with_node.Goals as goal

pub returns-clause-heads : goal.returns-clause-heads
returns-clause-heads g c =
    ap heads_of c.headers.view_is
    ∙ one_head c.in_ok-headers.headers c.change_then.new.self c.args.number c.args.header (ap heads_of c.in_ok-headers.ensures ∙ no_heads) c.in_ok-change_then.ensures.ok

pub returns-clause-names : goal.returns-clause-names
unfolding table
returns-clause-names g c = ap (table name_order) c.new-2.ensures

pub returns-clause-indexed : goal.returns-clause-indexed
unfolding table
returns-clause-indexed g c =
    let names : table name_order c.new-2.result ≡ empty = ap (table name_order) c.new-2.ensures in
    let counts : c.in_ok-new.field-0 ≡ empty = c.in_ok-new.ensures in
    let ways : table by_node c.new-4.result ≡ empty = ap (table by_node) c.new-4.ensures in
    record { names = rw names no_names; counted = rw (names, counts, ways) nothing_counted }
