-- Entries cut in two, and edits made by one walk over both.
use Rattle.std.proofs.Common.{◌≡◌, ◌<◌, ◌+◌, ℕ, zero, suc, Bool, true, false, cond, T, All, List, [], ◌∷◌, ◌++◌, length, take, drop, get_or, slice_index_or, Option, Some, None, refl, sym, ap, subst, ◌∙◌, arith}
use Rattle.std.specs.Prelude.{is_some}
use Rattle.std.proofs.lemmas.List.{append_assoc, append-nil, take-append-drop, drop_more}
use Rattle.std.proofs.Math.Seq.{take-add}
use Rattle.std.specs.declared.cmp.Ordering.{Ordering}
use Rattle.std.specs.declared.cmp.Ordering.TheVariants.{Less, Equal, Greater}
use Rattle.std.specs.declared.ops.Bound.{Bound}
use Rattle.std.specs.declared.ops.Bound.TheVariants.{Included}
use Rattle.std.specs.declared.sync.Arc.{Arc}
use Rattle.std.specs.Ordering.{is_eq, is_gt, eq_by_cmp, ordering_reverse}
use Rattle.std.specs.Cmp.{Equal-is}
use Rattle.std.specs.FinMap.Entries.{put, by_order, is_sorted}
use Rattle.kfs_model.specs.Table.{Order}
use Rattle.kfs_model.proofs.Tables.{left_part}
use Rattle.kfs_maps.specs.declared.chunks.entries.KeyEdit.{KeyEdit}
use Rattle.kfs_maps.specs.Chunks.Edits.{entered, entered_all, KeysAscend}
use Rattle.kfs_maps.specs.Chunks.Buffer.{Buffer}
use Rattle.kfs_maps.specs.Chunks.Joined.{joined, Each}
use Rattle.kfs_maps.specs.Chunks.Starts.{before, is_from, first_from, entry_from}
use Rattle.kfs_maps.proofs.ChunksLemmas.Order.{true_or_false, flipped, ascend_drop}
use Rattle.kfs_maps.proofs.ChunksLemmas.Parts.{sorted_left, sorted_right, none_later, joined-append, each-append}
use Rattle.kfs_maps.proofs.ChunksLemmas.Rewritten.{all_behind, none_still, ascend-head}
use Rattle.kfs_maps.proofs.ChunksLemmas.Sorted.{first_is, kept_without, none_lower, stands_first}

module _ {X : Type 0} (test : X → Bool) where
  -- behind those that come before, the first passes the test
  pub before-drop : (xs : List X) → before test (drop (before test xs) xs) ≡ 0
  before-drop [] = refl
  before-drop (x ∷ xs) = at (test x) refl (before-drop xs)
    where
      at : (b : Bool) → test x ≡ b → before test (drop (before test xs) xs) ≡ 0 → before test (drop (cond b 0 (suc (before test xs))) (x ∷ xs)) ≡ 0
      at true here rest = ap (λ b. cond b 0 (suc (before test xs))) here
      at false past rest = rest

module _ {K V : Type 0} (cmp : K → K → Ordering) where
  -- no entry in front of the first from the start on is from there on
  pub none-take : (start : Bound K) (es : List (K × V)) → entry_from cmp start (take (first_from cmp start es) es) ≡ None
  none-take start [] = refl
  none-take start (e ∷ es) = at (is_from cmp start e.0) refl (none-take start es)
    where
      at : (b : Bool) → is_from cmp start e.0 ≡ b → entry_from cmp start (take (first_from cmp start es) es) ≡ None → entry_from cmp start (take (cond b 0 (suc (first_from cmp start es))) (e ∷ es)) ≡ None
      at true here rest = refl
      at false past rest = ap (λ b. cond b (Some e) (entry_from cmp start (take (first_from cmp start es) es))) past ∙ rest

  pub sorted_take : (n : ℕ) (es : List (K × V)) → T (is_sorted cmp es) → T (is_sorted cmp (take n es))
  sorted_take n es sorted = sorted_left cmp (take n es) (drop n es) (subst (λ xs. T (is_sorted cmp xs)) (sym (take-append-drop n es)) sorted)

  pub sorted_drop : (n : ℕ) (es : List (K × V)) → T (is_sorted cmp es) → T (is_sorted cmp (drop n es))
  sorted_drop n es sorted = sorted_right cmp (take n es) (drop n es) (subst (λ xs. T (is_sorted cmp xs)) (sym (take-append-drop n es)) sorted)

module _ {K V : Type 0} (R : Order K) where
  -- entries whose first is above the key don't have it
  without_lower : (k : K) (e : K × V) (es : List (K × V)) → T (is_sorted R.compare (e ∷ es)) → R.compare k e.0 ≡ Less → entered R.compare (e ∷ es) k None ≡ e ∷ es
  without_lower k e es sorted less = kept_without R k (e ∷ es) (ap is_some (none_lower R k e es less (left_part _ _ sorted)))

  -- the first entry from the key on isn't below it
  not_above : (k : K) (e : K × V) (es : List (K × V)) → first_from R.compare (Included k) (e ∷ es) ≡ 0 → R.compare k e.0 ≡ Greater → ⊥
  not_above k e es from above = omega (arith, from, first_is R k e es Greater above)

  -- without the first entry, where that has the key, the others are left
  pub without_first : (k : K) (e : K × V) (es : List (K × V)) → T (is_sorted R.compare (e ∷ es)) → eq_by_cmp R.compare e.0 k ≡ true → entered R.compare (e ∷ es) k None ≡ es
  without_first k e es sorted same = (stands_first R k e es (R.total.antisymm k e.0 ∙ ap ordering_reverse ((Equal-is _).0 same)) (left_part _ _ sorted)).removed

  -- entries from the key on, whose first has another, don't have it
  pub without_other : (k : K) (e : K × V) (es : List (K × V)) → T (is_sorted R.compare (e ∷ es)) → first_from R.compare (Included k) (e ∷ es) ≡ 0 → eq_by_cmp R.compare e.0 k ≡ false → entered R.compare (e ∷ es) k None ≡ e ∷ es
  without_other k e es sorted from other = at (R.compare k e.0) refl
    where
      at : (r : Ordering) → R.compare k e.0 ≡ r → entered R.compare (e ∷ es) k None ≡ e ∷ es
      at Less less = without_lower k e es sorted less
      at Equal same = absurd (true_or_false true refl (sym (ap is_eq (R.total.antisymm e.0 k ∙ ap ordering_reverse same)) ∙ other))
      at Greater above = absurd (not_above k e es from above)

  -- an edit of entries from its key on stands before those without the key
  entered_first : (es : List (K × V)) (k : K) (w : Option V) → T (is_sorted R.compare es) → first_from R.compare (Included k) es ≡ 0 → entered R.compare es k w ≡ entered R.compare [] k w ++ entered R.compare es k None
  entered_first es k None sorted from = refl
  entered_first [] k (Some v) sorted from = refl
  entered_first (e ∷ es) k (Some v) sorted from = at (R.compare k e.0) refl
    where
      put_by : (r : Ordering) → R.compare k e.0 ≡ r → put R.compare k v (e ∷ es) ≡ by_order r ((k, v) ∷ e ∷ es) ((e.0, v) ∷ es) (e ∷ put R.compare k v es)
      put_by r p = ap (λ r. by_order r ((k, v) ∷ e ∷ es) ((e.0, v) ∷ es) (e ∷ put R.compare k v es)) p

      at : (r : Ordering) → R.compare k e.0 ≡ r → put R.compare k v (e ∷ es) ≡ (k, v) ∷ entered R.compare (e ∷ es) k None
      at Less less = put_by Less less ∙ ap (λ xs. (k, v) ∷ xs) (sym (without_lower k e es sorted less))
      at Equal same = put_by Equal same ∙ ap (λ j. (j, v) ∷ es) (sym (R.exact k e.0 same)) ∙ ap (λ xs. (k, v) ∷ xs) (sym (without_first k e es sorted (ap is_eq (R.total.antisymm e.0 k ∙ ap ordering_reverse same))))
      at Greater above = absurd (not_above k e es from above)

  -- edits of ascending keys: what is in front of the first stays, then comes what it makes, and the later are made in what is left
  walked : (es : List (K × V)) (e : KeyEdit K V) (later : List (KeyEdit K V)) → T (is_sorted R.compare es) → All (λ l. R.compare e.key l.key ≡ Less) later
      → entered_all R.compare es (e ∷ later)
      ≡ take (first_from R.compare (Included e.key) es) es ++ (entered R.compare [] e.key e.value ++ entered_all R.compare (entered R.compare (drop (first_from R.compare (Included e.key) es) es) e.key None) later)
  walked es e later sorted less =
      ap (λ xs. entered_all R.compare xs (e ∷ later)) (sym (take-append-drop n es))
      ∙ all_behind R (take n es) (drop n es) (e ∷ later) in_front
      ∙ ap (λ xs. take n es ++ xs)
      (ap (λ xs. entered_all R.compare xs later) (entered_first (drop n es) e.key e.value (sorted_drop R.compare n es sorted) (before-drop (λ x. is_from R.compare (Included e.key) x.0) es))
      ∙ all_behind R (entered R.compare [] e.key e.value) (entered R.compare (drop n es) e.key None) later (none_still R [] e.key e.value later less (λ i d below. refl)))
    where
      n : ℕ
      n = first_from R.compare (Included e.key) es

      in_front : All (λ x. entry_from R.compare (Included x.key) (take n es) ≡ None) (e ∷ later)
      in_front zero d below = none-take R.compare (Included e.key) es
      in_front (suc i) d below =
          none_later R e.key (slice_index_or later i d).key (take n es) (flipped R.total (slice_index_or later i d).key e.key ∙ ap is_gt (less i d (omega (arith, below)))) (none-take R.compare (Included e.key) es)

  -- a step of the walk: behind what is done come the entries in front and what the edit makes
  pub walk_step : (done es : List (K × V)) (e : KeyEdit K V) (later : List (KeyEdit K V)) → T (is_sorted R.compare es) → All (λ l. R.compare e.key l.key ≡ Less) later
      → ((done ++ take (first_from R.compare (Included e.key) es) es) ++ entered R.compare [] e.key e.value) ++ entered_all R.compare (entered R.compare (drop (first_from R.compare (Included e.key) es) es) e.key None) later
      ≡ done ++ entered_all R.compare es (e ∷ later)
  walk_step done es e later sorted less =
      append_assoc (done ++ front) own (entered_all R.compare rest later) ∙ append_assoc done front (own ++ entered_all R.compare rest later) ∙ ap (λ xs. done ++ xs) (sym (walked es e later sorted less))
    where
      front : List (K × V)
      front = take (first_from R.compare (Included e.key) es) es

      own : List (K × V)
      own = entered R.compare [] e.key e.value

      rest : List (K × V)
      rest = entered R.compare (drop (first_from R.compare (Included e.key) es) es) e.key None

module _ {K V : Type 0} (cmp : K → K → Ordering) where
  -- an edit is below those behind it
  pub ascend-behind : (es : List (KeyEdit K V)) (i : ℕ) (d : KeyEdit K V) → i < length es → KeysAscend cmp es → All (λ l. cmp (get_or es i d).key l.key ≡ Less) (drop (i + 1) es)
  ascend-behind es i d within ascend = ascend-head cmp (get_or es i d) (drop (i + 1) es) (subst (λ xs. KeysAscend cmp xs) (drop_more es i d within) (ascend_drop cmp es i ascend))

module _ {K V A : Type 0} where
  pub joined-push : (chunks : List (Arc (Buffer K V) A)) (chunk : Arc (Buffer K V) A) → joined (chunks ++ chunk ∷ []) ≡ joined chunks ++ chunk.value.pairs
  joined-push chunks chunk = joined-append chunks (chunk ∷ []) ∙ ap (λ es. joined chunks ++ es) (append-nil chunk.value.pairs)

  pub each-push : (P : List (K × V) → Type 0) (chunks : List (Arc (Buffer K V) A)) (chunk : Arc (Buffer K V) A) → Each P chunks → P chunk.value.pairs → Each P (chunks ++ chunk ∷ [])
  each-push P chunks chunk all this = each-append P chunks (chunk ∷ []) all (this, tt)

  -- a chunk of the next entries goes on with them
  pub joined_cut : (chunks : List (Arc (Buffer K V) A)) (chunk : Arc (Buffer K V) A) (done es : List (K × V)) (from count : ℕ) → joined chunks ≡ done ++ take from es → chunk.value.pairs ≡ take count (drop from es)
      → joined (chunks ++ chunk ∷ []) ≡ done ++ take (from + count) es
  joined_cut chunks chunk done es from count so_far next =
      joined-push chunks chunk ∙ (λ i. so_far i ++ next i) ∙ append_assoc done (take from es) (take count (drop from es)) ∙ ap (λ xs. done ++ xs) (sym (take-add from count es))
