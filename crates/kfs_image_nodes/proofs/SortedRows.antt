-- The tables of name rows that ascend, made of one row after another.
use Rattle.std.proofs.Common.{◌≡◌, ℕ, ◌==◌, ◌&&◌, Bool, cond, T, List, [], ◌∷◌, Some, count_by, map, refl, sym, ap, subst, ◌∙◌, arith}
use Rattle.std.proofs.lemmas.List.Sums.{sum_by-cons}
use Rattle.std.proofs.lemmas.Simd.{map-map}
use Rattle.std.specs.declared.cmp.Ordering.{Ordering}
use Rattle.std.specs.declared.cmp.Ordering.TheVariants.{Less, Equal, Greater}
use Rattle.std.specs.Ordering.{is_eq, nat_cmp, eq_by_cmp}
use Rattle.std.specs.List.{AllByRecursion}
use Rattle.std.specs.FinMap.Entries.{find, is_sorted}
use Rattle.kfs_types.specs.declared.plan.NameRow.{NameRow}
use Rattle.kfs_model.specs.Table.{Table, numbers, get}
use Rattle.kfs_model.specs.Tree.{name_order}
use Rattle.kfs_maps.specs.Chunks.Tables.{table}
use Rattle.kfs_maps.proofs.ChunksLemmas.Tables.{get-table, entries-table}
use Rattle.kfs_image_nodes.specs.Indexes.{by_node, count_at, IsCounted, ArePositive}
use Rattle.kfs_image_nodes.specs.SortedRows.{name_entry, name_entries, dir_of, uplink_of}
use Rattle.kfs_image_nodes.proofs.Indexes.{turned, turned_pair}

abbrev Entry : Type 0
Entry = (ℕ × List ℕ) × ℕ

-- as many parts of rows pass as entries of the rows, where a part passes exactly where the entry does
counted_alike : {K : Type 0} (p : K → Bool) (part : NameRow (List ℕ) → K) (passes : Entry → Bool) → ((row : NameRow (List ℕ)) → p (part row) ≡ passes (name_entry row)) → (rows : List (NameRow (List ℕ))) → count_by p (map part rows) ≡ count_by passes (name_entries rows)
counted_alike p part passes same [] = refl
counted_alike p part passes same (row ∷ rows) =
    let left = sum_by-cons (λ k. cond (p k) 1 0) (part row) (map part rows) in
    let right = sum_by-cons (λ e. cond (passes e) 1 0) (name_entry row) (name_entries rows) in
    let first = ap {B = ℕ} (λ b. cond b 1 0) (same row) in
    omega (arith, left, right, first, counted_alike p part passes same rows)

-- how often the rows have each directory, and each uplink, are the counts of the table of their entries
pub counted_rows : (rows : List (NameRow (List ℕ))) (tally : Table numbers ℕ) (ways : Table by_node ℕ) → T (is_sorted name_order.compare (name_entries rows)) → ((d : ℕ) → count_at tally d ≡ count_by (λ k. eq_by_cmp nat_cmp d k) (map dir_of (map uplink_of rows)))
    → ArePositive ways
    → ((q : ℕ × ℕ) → count_at ways q ≡ count_by (λ k. eq_by_cmp by_node.compare q k) (map uplink_of rows))
    → IsCounted (table name_order (name_entries rows)) tally ways
counted_rows rows tally ways sorted dirs positive uplinks =
    let entries = entries-table name_order (name_entries rows) sorted in
    record {
      positive = positive;
      counts = λ d.
          dirs d
          ∙ ap (λ ks. count_by (λ k. eq_by_cmp nat_cmp d k) ks) (map-map dir_of uplink_of rows)
          ∙ counted_alike (λ k. eq_by_cmp nat_cmp d k) (λ row. row.dir) (λ (e : Entry). e.0.0 == d) (λ row. sym (turned row.dir d)) rows
          ∙ sym (ap (λ es. count_by (λ (e : Entry). e.0.0 == d) es) entries);
      uplinks = λ n d.
          uplinks (n, d)
          ∙ counted_alike (λ k. eq_by_cmp by_node.compare (n, d) k) uplink_of (λ (e : Entry). (e.1 == n) && (e.0.0 == d)) (λ row. sym (turned_pair row.number n row.dir d)) rows
          ∙ sym (ap (λ es. count_by (λ (e : Entry). (e.1 == n) && (e.0.0 == d)) es) entries);
    }

-- what holds of each row's key holds of each key of the table
pub keys_of_rows : (P : ℕ × List ℕ → Type 0) (rows : List (NameRow (List ℕ))) → AllByRecursion (λ row. P (row.dir, row.name)) rows → (key : ℕ × List ℕ) (number : ℕ) → get (table name_order (name_entries rows)) key ≡ Some number → P key
keys_of_rows P rows all key number is = found rows all (sym (get-table name_order (name_entries rows) key) ∙ is)
  where
    found : (rows : List (NameRow (List ℕ))) → AllByRecursion (λ row. P (row.dir, row.name)) rows → find name_order.compare key (name_entries rows) ≡ Some number → P key
    found [] all is = cc
    found (row ∷ rows) all is = at (name_order.compare key (row.dir, row.name)) refl (found rows all.1) is
      where
        at : (o : Ordering) → name_order.compare key (row.dir, row.name) ≡ o → (find name_order.compare key (name_entries rows) ≡ Some number → P key)
            → cond (is_eq o) (Some row.number) (find name_order.compare key (name_entries rows)) ≡ Some number → P key
        at Less apart rest is = rest is
        at Equal tied rest is = subst P (sym (name_order.exact key (row.dir, row.name) tied)) all.0
        at Greater apart rest is = rest is
