use Rattle.std.proofs.Common.{sym, ap, subst}
use Rattle.std.proofs.lemmas.List.Elements.{recursion_from_All}
use Rattle.kfs_model.specs.Spelling.{IsName}
use Rattle.kfs_model.specs.Tree.{NameTable, name_order}
use Rattle.kfs_maps.specs.Chunks.Tables.{table}
use Rattle.kfs_image_nodes.specs.Indexes.{by_node, AreNames, IsCounted}
use Rattle.kfs_image_nodes.proofs.SortedRows.{keys_of_rows}
use Rattle.kfs_image_nodes.proofs.rows.NodeTables.of_rows.Goals as goal

pub returns-clause-indexed : goal.returns-clause-indexed
returns-clause-indexed g c =
    let rows = c.args.rows.now in
    let made = c.in_ok-counts.field-0 in
    let names = ap (table name_order) c.in_ok-names.ensures in
    record {
      names = subst (λ (t : NameTable). AreNames t) (sym names) (keys_of_rows (λ key. IsName key.1) rows (recursion_from_All (λ row. IsName row.name) rows c.requires.named));
      counted = subst (λ (t : NameTable). IsCounted t made.counts (table by_node made.uplinks)) (sym names) c.in_ok-counts.ensures;
    }
