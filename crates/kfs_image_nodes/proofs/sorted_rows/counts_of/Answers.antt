use Rattle.std.proofs.Common.{◌≡◌, ℕ, List, [], None, count_by, map, sym, ap, subst, ◌∙◌}
use Rattle.std.specs.Prelude.{unwrap_or}
use Rattle.std.specs.Ordering.{eq_by_cmp, nat_cmp}
use Rattle.std.specs.FinMap.Entries.{find}
use Rattle.std.proofs.lemmas.List.Elements.{recursion_from_All}
use Rattle.kfs_model.specs.Table.{Table, numbers, empty, get}
use Rattle.kfs_model.specs.Tree.{NameTable, name_order}
use Rattle.kfs_maps.specs.Pages.Edits as numbered
use Rattle.kfs_maps.specs.Chunks.Overlays.{overlaid}
use Rattle.kfs_maps.specs.Chunks.Tables.{table}
use Rattle.kfs_maps.specs.Chunks.Edits as keyed
use Rattle.kfs_maps.proofs.ChunksLemmas.Tables.{get-table, find-rewritten}
use Rattle.kfs_image_nodes.specs.Indexes.{by_node, count_at, IsCounted, AreInPages}
use Rattle.kfs_image_nodes.specs.NodeEdits.{IsNumber}
use Rattle.kfs_image_nodes.specs.SortedRows.{name_entries, uplink_of, dir_of}
use Rattle.kfs_image_nodes.proofs.Indexes.{nothing_counted}
use Rattle.kfs_image_nodes.proofs.NameEdits.{counted_edits}
use Rattle.kfs_image_nodes.proofs.SortedRows.{counted_rows, keys_of_rows}
use Rattle.kfs_image_nodes.proofs.sorted_rows.counts_of.Goals as goal

none_within : AreInPages empty
unfolding get
none_within key number is = cc

pub returns : goal.returns
returns g c =
    let rows = c.args.rows.now in
    let names : NameTable = table name_order (name_entries rows) in
    let said = c.in_ok-tally.tally.latest in
    let count_edits = c.in_ok-count_edits.count_edits.items in
    let uplink_edits = c.in_ok-uplink_edits.uplink_edits.items in
    let counts : c.in_ok-counts.counts ≡ empty = c.in_ok-counts.ensures in
    let listed : List (ℕ × ℕ) = c.in_ok-listed.listed.items in
    let listed_are : listed ≡ map uplink_of rows = c.in_ok-listed.ensures in
    let ways : Table by_node ℕ = table by_node c.change_then-2.new.self in
    let ways_are : c.change_then-2.new.self ≡ keyed.rewritten by_node [] uplink_edits = c.in_ok-change_then-2.ensures.ok
    ∙ ap (λ es. keyed.rewritten by_node c.new-uplinks.result es) c.as_slice-3.ensures.value
    ∙ ap (λ xs. keyed.rewritten by_node xs uplink_edits) c.new-uplinks.ensures in
    let found : (q : ℕ × ℕ) → get ways q ≡ keyed.edited by_node.compare uplink_edits q None = λ q.
    get-table by_node c.change_then-2.new.self q ∙ ap (find by_node.compare q) ways_are ∙ find-rewritten by_node [] uplink_edits q in
    let often = c.in_ok-uplink_edits.ensures.said in
    let dirs : (d : ℕ) → count_at (overlaid empty said.entries) d ≡ count_by (λ k. eq_by_cmp nat_cmp d k) (map dir_of (map uplink_of rows)) = λ d.
    c.in_ok-tally.ensures d ∙ ap (λ keys. count_by (λ k. eq_by_cmp nat_cmp d k) (map dir_of keys)) (c.as_slice.ensures.value ∙ listed_are) in
    let seen : IsCounted names (overlaid empty said.entries) ways =
    counted_rows rows (overlaid empty said.entries) ways c.requires.sorted dirs (λ q count is. often.positive q count (sym (found q) ∙ is)) (λ q. ap (λ o. unwrap_or o 0) (found q) ∙ often.counts q ∙ ap (λ keys. count_by (λ k. eq_by_cmp by_node.compare q k) keys) listed_are) in
    let within : AreInPages names = keys_of_rows (λ key. IsNumber key.0) rows (recursion_from_All (λ row. IsNumber row.dir) rows c.requires.numbered) in
    let made : IsCounted names (numbered.rewritten c.in_ok-counts.counts count_edits) ways =
    counted_edits empty c.in_ok-counts.counts empty (subst (λ (t : Table numbers ℕ). IsCounted empty t empty) (sym counts) nothing_counted) names ways said (subst (λ (t : Table numbers ℕ). IsCounted names (overlaid t said.entries) ways) (sym counts) seen)
    count_edits c.in_ok-count_edits.ensures.edits c.in_ok-count_edits.ensures.said none_within within in
    let counts_are : c.change_then.new.self ≡ numbered.rewritten c.in_ok-counts.counts count_edits = c.in_ok-change_then.ensures.ok ∙ ap (numbered.rewritten c.in_ok-counts.counts) c.as_slice-2.ensures.value in
    subst (λ (t : Table numbers ℕ). IsCounted names t ways) (sym counts_are) made
