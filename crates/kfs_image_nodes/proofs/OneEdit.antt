-- The counts after one name alone has come or gone.
use Rattle.std.proofs.Common.{◌≡◌, ℕ, ◌+◌, ◌<◌, ◌≤◌, List, [], ◌∷◌, length, get_or, Option, Some, None, sym, subst, ap, ◌∙◌, arith}
use Rattle.std.specs.Prelude.{unwrap_or}
use Rattle.std.specs.FinMap.Entries.{find}
use Rattle.std.proofs.lemmas.List.Elements.{All-from_recursion}
use Rattle.kfs_model.specs.Limits.{greatest_number}
use Rattle.kfs_model.specs.Tree.{name_order}
use Rattle.kfs_model.specs.Table.{Table, numbers, changed}
use Rattle.kfs_maps.specs.declared.pages.change.NumberEdit.{NumberEdit}
use Rattle.kfs_maps.specs.Pages.Edits as numbered
use Rattle.kfs_maps.specs.Pages.Edits.{AreEdits}
use Rattle.kfs_maps.specs.declared.chunks.entries.KeyEdit.{KeyEdit}
use Rattle.kfs_maps.specs.Chunks.Edits.{KeysAscend, rewritten}
use Rattle.kfs_maps.specs.Chunks.Tables.{table, table_after}
use Rattle.kfs_maps.proofs.ChunksLemmas.Tables.{get-table, table-rewritten}
use Rattle.kfs_image_nodes.specs.declared.tallies.CountEdits.{CountEdits}
use Rattle.kfs_image_nodes.specs.Indexes.{ArePositive, IsCounted, by_node, count_at, count_step, uplink_step}
use Rattle.kfs_image_nodes.specs.NameEdits.{AreCountEdits, AreMovedBy}
use Rattle.kfs_image_nodes.specs.NodeEdits.{IsNumber}
use Rattle.kfs_image_nodes.proofs.Indexes.{counted_less, counted_more, counted_moved, still_positive}

one_number : (e : NumberEdit ℕ) → IsNumber e.number → AreEdits (e ∷ [])
one_number e is = record { ascend = λ i j d less below. absurd (omega (arith, less, below)); range = All-from_recursion (λ (e : NumberEdit ℕ). (1 ≤ e.number) × (e.number ≤ greatest_number)) (e ∷ []) (is, tt) }

one_key : (e : KeyEdit (ℕ × ℕ) ℕ) → KeysAscend by_node.compare (e ∷ [])
one_key e i j d less below = absurd (omega (arith, less, below))

module _ {A : Type 0} (counts : Table numbers ℕ) (uplinks : List ((ℕ × ℕ) × ℕ)) (dir number : ℕ) (names ways : Option ℕ) (edits : CountEdits A) (within : IsNumber dir)
    (positive : (count : ℕ) → ways ≡ Some count → 0 < count)
    (counts_are : edits.counts.items ≡ record { number = dir; value = names } ∷ [])
    (uplinks_are : edits.uplinks.items ≡ record { key = (number, dir); value = ways } ∷ []) where
  ways_left : table by_node (rewritten by_node uplinks edits.uplinks.items) ≡ changed (table by_node uplinks) (number, dir) ways
  unfolding table_after
  ways_left = ap (λ es. table by_node (rewritten by_node uplinks es)) uplinks_are ∙ table-rewritten by_node uplinks (record { key = (number, dir); value = ways } ∷ [])

  moved : (from to : Option ℕ)
      → ((q : ℕ) → count_at (changed counts dir names) q + count_step dir from q ≡ count_at counts q + count_step dir to q)
      → ((q : ℕ × ℕ) → count_at (changed (table by_node uplinks) (number, dir) ways) q + uplink_step dir from q ≡ count_at (table by_node uplinks) q + uplink_step dir to q)
      → AreMovedBy counts uplinks dir from to edits
  moved from to counts_move uplinks_move = record {
    counts_ascend = subst AreEdits (sym counts_are) (one_number (record { number = dir; value = names }) within);
    uplinks_ascend = subst (KeysAscend by_node.compare) (sym uplinks_are) (one_key (record { key = (number, dir); value = ways }));
    positive = λ all. subst (λ (t : Table by_node ℕ). ArePositive t) (sym ways_left) (still_positive (table by_node uplinks) (number, dir) ways positive all);
    counts_moved = λ q. subst (λ es. count_at (numbered.rewritten counts es) q + count_step dir from q ≡ count_at counts q + count_step dir to q) (sym counts_are) (counts_move q);
    uplinks_moved = λ q. ap (λ (t : Table by_node ℕ). count_at t q + uplink_step dir from q) ways_left ∙ uplinks_move q;
  }

  pub moved_in : unwrap_or names 0 ≡ count_at counts dir + 1 → unwrap_or ways 0 ≡ count_at (table by_node uplinks) (number, dir) + 1 → AreMovedBy counts uplinks dir None (Some number) edits
  moved_in names_more ways_more = moved None (Some number)
      (λ q. let more = counted_more counts dir names 1 names_more q in omega (arith, more))
      (λ q. let more = counted_more (table by_node uplinks) (number, dir) ways 1 ways_more q in omega (arith, more))

  pub moved_out : unwrap_or names 0 + 1 ≡ count_at counts dir → unwrap_or ways 0 + 1 ≡ count_at (table by_node uplinks) (number, dir) → AreMovedBy counts uplinks dir (Some number) None edits
  moved_out names_less ways_less = moved (Some number) None
      (λ q. let less = counted_less counts dir names names_less q in omega (arith, less))
      (λ q. let less = counted_less (table by_node uplinks) (number, dir) ways ways_less q in omega (arith, less))

one_item : {X : Type 0} (xs : List X) (x : X) → 1 ≤ length xs → length xs < 2 → x ≡ get_or xs 0 x → xs ≡ x ∷ []
one_item [] x some few is = absurd (omega (arith, some))
one_item (y ∷ []) x some few is = ap (λ z. z ∷ []) (sym is)
one_item (y ∷ z ∷ zs) x some few is = absurd (omega (arith, few))

-- the counts are right where they are moved by the only edit of the names
pub counted_once : {A : Type 0} (names : List ((ℕ × List ℕ) × ℕ)) (counts : Table numbers ℕ) (uplinks : List ((ℕ × ℕ) × ℕ)) (renames : List (KeyEdit (ℕ × List ℕ) ℕ)) (e : KeyEdit (ℕ × List ℕ) ℕ) (from : Option ℕ) (edits : CountEdits A)
    → IsCounted (table name_order names) counts (table by_node uplinks)
    → 1 ≤ length renames
    → length renames < 2
    → e ≡ get_or renames 0 e
    → from ≡ find name_order.compare e.key names
    → AreMovedBy counts uplinks e.key.0 from e.value edits
    → AreCountEdits names counts uplinks renames edits
unfolding table_after
counted_once names counts uplinks renames e from edits counted some few is found made = record {
  counts_ascend = made.counts_ascend;
  uplinks_ascend = made.uplinks_ascend;
  counted = λ within within_now.
      subst (λ es. IsCounted (table_after (table name_order names) es) (numbered.rewritten counts edits.counts.items) (table by_node (rewritten by_node uplinks edits.uplinks.items)))
      (sym (one_item renames e some few is))
      (counted_moved (table name_order names) counts _ (table by_node uplinks) _ counted e.key from e.value (found ∙ sym (get-table name_order names e.key)) made.counts_moved made.uplinks_moved made.positive);
}
