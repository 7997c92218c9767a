-- The next run of entries from a start on: which it is in chunks one behind the other, and its first entry.
use Rattle.std.proofs.Common.{◌≡◌, ◌<◌, ◌≤◌, suc, Bool, true, false, cond, T, List, [], ◌∷◌, ◌++◌, length, length-take, get_or, slice_get, take, drop, Some, None, refl, sym, ap, ◌∙◌, arith}
use Rattle.std.specs.Prelude.{is_some}
use Rattle.std.proofs.lemmas.List.{take_all, take-append-le}
use Rattle.std.proofs.lemmas.List.Elements.{filter-append}
use Rattle.std.specs.declared.cmp.Ordering.{Ordering}
use Rattle.std.specs.declared.ops.Bound.{Bound}
use Rattle.std.specs.declared.sync.Arc.{Arc}
use Rattle.std.specs.FinMap.Entries.{find, is_sorted, below_all}
use Rattle.kfs_model.specs.Table.{Order}
use Rattle.kfs_model.proofs.Tables.{left_part, right_part}
use Rattle.kfs_maps.specs.Chunks.Buffer.{Buffer}
use Rattle.kfs_maps.specs.Chunks.Joined.{joined, first_chunk_from}
use Rattle.kfs_maps.specs.Chunks.Starts.{is_from, first_from, entry_from, entries_from, reaches, IsNextEntry, IsNextRun}
use Rattle.kfs_maps.proofs.ChunksLemmas.Order.{true_or_false}
use Rattle.kfs_maps.proofs.ChunksLemmas.Sorted.{earlier, as_less}
use Rattle.kfs_maps.proofs.ChunksLemmas.FirstEntries.{next_is, nothing_from}
use Rattle.kfs_maps.proofs.ChunksLemmas.Parts.{past_place}

module _ {K V : Type 0} (cmp : K → K → Ordering) (start : Bound K) where
  from-append : (xs ys : List (K × V)) → entries_from cmp start (xs ++ ys) ≡ entries_from cmp start xs ++ entries_from cmp start ys
  from-append xs ys = filter-append (λ (e : K × V). is_from cmp start e.0) xs ys

  entry_is_first : (es : List (K × V)) → entry_from cmp start es ≡ slice_get (entries_from cmp start es) 0
  entry_is_first [] = refl
  entry_is_first (e ∷ es) = at (is_from cmp start e.0) (entry_is_first es)
    where
      at : (b : Bool) → entry_from cmp start es ≡ slice_get (entries_from cmp start es) 0 → cond b (Some e) (entry_from cmp start es) ≡ slice_get (cond b (e ∷ entries_from cmp start es) (entries_from cmp start es)) 0
      at true rest = refl
      at false rest = rest

  some_left : (es : List (K × V)) → reaches cmp start es ≡ true → entries_from cmp start es ≡ [] → ⊥
  some_left es here none = true_or_false false (sym (ap is_some (entry_is_first es ∙ ap (λ left. slice_get left 0) none)) ∙ here) refl

  none_left : (es : List (K × V)) → reaches cmp start es ≡ false → entries_from cmp start es ≡ []
  none_left es past = at (entries_from cmp start es) (sym (ap is_some (entry_is_first es)) ∙ past)
    where
      at : (left : List (K × V)) → is_some (slice_get left 0) ≡ false → left ≡ []
      at [] past = refl
      at (x ∷ xs) past = absurd (true_or_false true refl past)

  -- all of the entries from the start on are a run
  pub whole_run : (es run : List (K × V)) → run ≡ entries_from cmp start es → IsNextRun cmp start es run
  whole_run es run whole = record { first = whole ∙ sym (take_all _ _ (omega (arith, ap length whole))); some = λ none. sym whole ∙ none }

module _ {K V A : Type 0} (cmp : K → K → Ordering) (start : Bound K) where
  -- the next run of all chunks is that of the first chunk with an entry from the start on
  pub run_in_place : (cs : List (Arc (Buffer K V) A)) (d : Arc (Buffer K V) A) (run : List (K × V)) → first_chunk_from cmp start cs < length cs
      → IsNextRun cmp start (get_or cs (first_chunk_from cmp start cs) d).value.pairs run → IsNextRun cmp start (joined cs) run
  run_in_place [] d run within next = absurd (omega (arith, within))
  run_in_place (c ∷ cs) d run within next = at (run_in_place cs d run) (reaches cmp start c.value.pairs) refl within next
    where
      own : List (K × V)
      own = entries_from cmp start c.value.pairs

      later : List (K × V)
      later = entries_from cmp start (joined cs)

      at : (first_chunk_from cmp start cs < length cs → IsNextRun cmp start (get_or cs (first_chunk_from cmp start cs) d).value.pairs run → IsNextRun cmp start (joined cs) run)
          → (b : Bool) → reaches cmp start c.value.pairs ≡ b → cond b 0 (suc (first_chunk_from cmp start cs)) < suc (length cs)
          → IsNextRun cmp start (get_or (c ∷ cs) (cond b 0 (suc (first_chunk_from cmp start cs))) d).value.pairs run → IsNextRun cmp start (c.value.pairs ++ joined cs) run
      at rest true here within next = record {
        first =
            next.first
            ∙ sym (take-append-le (length run) own later (omega (arith, ap length next.first, length-take (length run) own)))
            ∙ ap (take (length run)) (sym (from-append cmp start c.value.pairs (joined cs)));
        some = λ none. absurd (some_left cmp start c.value.pairs here (next.some none));
      }
      at rest false past within next =
          let left = rest (omega (arith, within)) next in
          let same : entries_from cmp start (c.value.pairs ++ joined cs) ≡ later = from-append cmp start c.value.pairs (joined cs) ∙ ap (λ es. es ++ later) (none_left cmp start c.value.pairs past) in
          record { first = left.first ∙ ap (take (length run)) (sym same); some = λ none. same ∙ left.some none }

  -- where no chunk has one, there is no run
  pub run_past : (cs : List (Arc (Buffer K V) A)) → length cs ≤ first_chunk_from cmp start cs → IsNextRun cmp start (joined cs) []
  run_past cs past = record { first = refl; some = λ none. none_left cmp start (joined cs) (ap is_some (past_place cmp start cs past)) }

module _ {K V : Type 0} (R : Order K) (start : Bound K) where
  all_from : (k : K) (es : List (K × V)) → is_from R.compare start k ≡ true → T (below_all R.compare k es) → entries_from R.compare start es ≡ es
  all_from k [] from below = refl
  all_from k (e ∷ es) from below =
      ap (λ b. cond b (e ∷ entries_from R.compare start es) (entries_from R.compare start es)) (at (is_from R.compare start e.0) refl)
      ∙ ap (λ rest. e ∷ rest) (all_from k es from (right_part _ _ below))
    where
      at : (b : Bool) → is_from R.compare start e.0 ≡ b → b ≡ true
      at true here = refl
      at false past = absurd (true_or_false _ from (earlier R start k e.0 (as_less _ (left_part _ _ below)) past))

  -- sorted entries are from the start on from the first one that is
  pub drop_first : (es : List (K × V)) → T (is_sorted R.compare es) → drop (first_from R.compare start es) es ≡ entries_from R.compare start es
  drop_first [] sorted = refl
  drop_first (e ∷ es) sorted = at (drop_first es (right_part _ _ sorted)) (is_from R.compare start e.0) refl
    where
      at : drop (first_from R.compare start es) es ≡ entries_from R.compare start es → (b : Bool) → is_from R.compare start e.0 ≡ b
          → drop (cond b 0 (suc (first_from R.compare start es))) (e ∷ es) ≡ cond b (e ∷ entries_from R.compare start es) (entries_from R.compare start es)
      at rest true here = sym (ap (λ rest. e ∷ rest) (all_from e.0 es here (left_part _ _ sorted)))
      at rest false past = rest

  -- the first of the next run is the next entry
  pub run_begins : (es run : List (K × V)) (e : K × V) → T (is_sorted R.compare es) → IsNextRun R.compare start es run → Some e ≡ slice_get run 0 → IsNextEntry R.compare start es e.0 e.1
  run_begins es [] e sorted next is = absurd (let never : Some e ≡ None = is in cc)
  run_begins es (x ∷ run) e sorted next is = next_is R start es e.0 e.1 sorted (entry_is_first R.compare start es ∙ at (entries_from R.compare start es) next.first ∙ sym is)
    where
      at : (left : List (K × V)) → x ∷ run ≡ take (suc (length run)) left → slice_get left 0 ≡ Some x
      at [] first = let never : x ∷ run ≡ [] = first in cc
      at (y ∷ left) first = sym (ap (λ es. slice_get es 0) first)

  -- where it is empty, nothing is found from the start on
  pub run_ends : (es run : List (K × V)) → IsNextRun R.compare start es run → None ≡ slice_get run 0 → (q : K) → is_from R.compare start q ≡ true → find R.compare q es ≡ None
  run_ends es [] next is q from = nothing_from R start es q (entry_is_first R.compare start es ∙ ap (λ left. slice_get left 0) (next.some refl)) from
  run_ends es (e ∷ run) next is q from = absurd (let never : None ≡ Some e = is in cc)
