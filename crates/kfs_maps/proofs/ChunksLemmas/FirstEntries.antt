-- The first entry from a start on, in sorted entries and in lists one behind the other.
use Rattle.std.proofs.Common.{◌≡◌, Bool, true, false, cond, not, T, List, [], ◌∷◌, ◌++◌, Option, Some, None, refl, sym, ap, ◌∙◌}
use Rattle.std.specs.Prelude.{IsSome, is_some}
use Rattle.std.specs.declared.cmp.Ordering.{Ordering}
use Rattle.std.specs.declared.cmp.Ordering.TheVariants.{Less, Equal, Greater}
use Rattle.std.specs.declared.ops.Bound.{Bound}
use Rattle.std.specs.declared.ops.Bound.TheVariants.{Included}
use Rattle.std.specs.Ordering.{is_eq, is_lt, is_gt, eq_by_cmp}
use Rattle.std.specs.FinMap.Entries.{find, is_sorted}
use Rattle.kfs_model.specs.Table.{Order}
use Rattle.kfs_model.proofs.Tables.{left_part, right_part, find_head, find_behind}
use Rattle.kfs_maps.specs.Chunks.Starts.{is_from, entry_from, reaches, IsNextEntry}
use Rattle.kfs_maps.proofs.ChunksLemmas.Order.{true_or_false, flipped}
use Rattle.kfs_maps.proofs.ChunksLemmas.Sorted.{from_itself, passed_over, none_lower}

module _ {K V : Type 0} (cmp : K → K → Ordering) (start : Bound K) where
  -- of two lists, the first that has one
  pub entry-append : (xs ys : List (K × V)) → entry_from cmp start (xs ++ ys) ≡ cond (reaches cmp start xs) (entry_from cmp start xs) (entry_from cmp start ys)
  entry-append [] ys = refl
  entry-append (x ∷ xs) ys = at (is_from cmp start x.0) (entry-append xs ys)
    where
      at : (b : Bool) → entry_from cmp start (xs ++ ys) ≡ cond (reaches cmp start xs) (entry_from cmp start xs) (entry_from cmp start ys)
          → cond b (Some x) (entry_from cmp start (xs ++ ys)) ≡ cond (is_some (cond b (Some x) (entry_from cmp start xs))) (cond b (Some x) (entry_from cmp start xs)) (entry_from cmp start ys)
      at true rest = refl
      at false rest = rest

module _ {K V : Type 0} (R : Order K) where
  -- the value of an entry with the key
  found_in : K → Option (K × V) → Option V
  found_in q None = None
  found_in q (Some e) = cond (eq_by_cmp R.compare q e.0) (Some e.1) None

  -- what is found at a key is found at the first entry from it on
  find_first : (q : K) (es : List (K × V)) → T (is_sorted R.compare es) → find R.compare q es ≡ found_in q (entry_from R.compare (Included q) es)
  unfolding found_in
  find_first q [] sorted = refl
  find_first q (e ∷ es) sorted = at (find_first q es (right_part _ _ sorted)) (is_from R.compare (Included q) e.0) refl
    where
      by : (r : Ordering) → R.compare q e.0 ≡ r → not (is_lt (R.compare e.0 q)) ≡ true → find R.compare q (e ∷ es) ≡ cond (eq_by_cmp R.compare q e.0) (Some e.1) None
      by Less p here = none_lower R q e es p (left_part _ _ sorted) ∙ sym (ap (λ r. cond (is_eq r) (Some e.1) None) p)
      by Equal p here = ap (λ r. cond (is_eq r) (Some e.1) (find R.compare q es)) p ∙ sym (ap (λ r. cond (is_eq r) (Some e.1) None) p)
      by Greater p here = absurd (true_or_false false (ap not (sym (flipped R.total e.0 q ∙ ap is_gt p)) ∙ here) refl)

      at : find R.compare q es ≡ found_in q (entry_from R.compare (Included q) es)
          → (b : Bool) → is_from R.compare (Included q) e.0 ≡ b → find R.compare q (e ∷ es) ≡ found_in q (cond b (Some e) (entry_from R.compare (Included q) es))
      at rest true here = by (R.compare q e.0) refl here
      at rest false past = passed_over R (Included q) q e es (from_itself R q) past ∙ rest

  -- entries with the same first entry from a key on have the same value there
  pub find_same : (q : K) (xs ys : List (K × V)) → T (is_sorted R.compare xs) → T (is_sorted R.compare ys) → entry_from R.compare (Included q) xs ≡ entry_from R.compare (Included q) ys → find R.compare q xs ≡ find R.compare q ys
  find_same q xs ys left right same = find_first q xs left ∙ ap (found_in q) same ∙ sym (find_first q ys right)

  pub find_none : (q : K) (es : List (K × V)) → T (is_sorted R.compare es) → entry_from R.compare (Included q) es ≡ None → find R.compare q es ≡ None
  unfolding found_in
  find_none q es sorted none = find_first q es sorted ∙ ap (found_in q) none

  -- nothing is found at a key where the first entry from it on is above it
  pub find_above : (q : K) (es : List (K × V)) (e : K × V) → T (is_sorted R.compare es) → entry_from R.compare (Included q) es ≡ Some e → R.compare q e.0 ≡ Less → find R.compare q es ≡ None
  unfolding found_in
  find_above q es e sorted first above = find_first q es sorted ∙ ap (found_in q) first ∙ ap (λ r. cond (is_eq r) (Some e.1) None) above

  -- where no entry is from the start on, nothing is found there
  pub nothing_from : (start : Bound K) (es : List (K × V)) (q : K) → entry_from R.compare start es ≡ None → is_from R.compare start q ≡ true → find R.compare q es ≡ None
  nothing_from start [] q none from = refl
  nothing_from start (e ∷ es) q none from = at (nothing_from start es q) (is_from R.compare start e.0) refl none
    where
      at : (entry_from R.compare start es ≡ None → is_from R.compare start q ≡ true → find R.compare q es ≡ None)
          → (b : Bool) → is_from R.compare start e.0 ≡ b → cond b (Some e) (entry_from R.compare start es) ≡ None → find R.compare q (e ∷ es) ≡ None
      at rest true here none = absurd (let e : Some e ≡ None = none in cc)
      at rest false here none = passed_over R start q e es from here ∙ rest none from

  -- the first entry from the start on is the next one
  pub next_is : (start : Bound K) (es : List (K × V)) (k : K) (v : V) → T (is_sorted R.compare es) → entry_from R.compare start es ≡ Some (k, v) → IsNextEntry R.compare start es k v
  next_is start [] k v sorted found = absurd (let e : None ≡ Some (k, v) = found in cc)
  next_is start (e ∷ es) k v sorted found = at (next_is start es k v (right_part _ _ sorted)) (is_from R.compare start e.0) refl found
    where
      not_lower : (q : K) (r : Ordering) → R.compare q e.0 ≡ r → IsSome (find R.compare q (e ∷ es)) → is_lt (R.compare q e.0) ≡ false
      not_lower q Less p some = absurd (true_or_false false (sym (ap is_some (none_lower R q e es p (left_part _ _ sorted))) ∙ some) refl)
      not_lower q Equal p some = ap is_lt p
      not_lower q Greater p some = ap is_lt p

      at : (entry_from R.compare start es ≡ Some (k, v) → IsNextEntry R.compare start es k v)
          → (b : Bool) → is_from R.compare start e.0 ≡ b → cond b (Some e) (entry_from R.compare start es) ≡ Some (k, v) → IsNextEntry R.compare start (e ∷ es) k v
      at rest true here found =
          let same : e ≡ (k, v) = cc found in
          record {
            found = ap (λ (x : K × V). find R.compare x.0 (e ∷ es)) (sym same) ∙ find_head R e es ∙ ap (λ (x : K × V). Some x.1) same;
            within = ap (λ (x : K × V). is_from R.compare start x.0) (sym same) ∙ here;
            least = λ q from some. ap (λ (x : K × V). is_lt (R.compare q x.0)) (sym same) ∙ not_lower q (R.compare q e.0) refl some;
          }
      at rest false past found =
          let next = rest found in
          record {
            found = find_behind R k v e es sorted next.found;
            within = next.within;
            least = λ q from some. next.least q from (ap is_some (sym (passed_over R start q e es from past)) ∙ some);
          }
