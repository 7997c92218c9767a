-- What edits make of entries in two parts, and how many entries they leave.
use Rattle.std.proofs.Common.{◌≡◌, ◌<◌, ◌≤◌, ◌+◌, suc, Bool, true, false, cond, not, T, All, List, [], ◌∷◌, ◌++◌, length, slice_index_or, Option, Some, None, refl, sym, ap, subst, ◌∙◌, arith}
use Rattle.std.specs.Prelude.{is_some}
use Rattle.std.proofs.lemmas.List.Elements.{All-tail}
use Rattle.std.specs.declared.cmp.Ordering.{Ordering}
use Rattle.std.specs.declared.cmp.Ordering.TheVariants.{Less, Equal, Greater}
use Rattle.std.specs.declared.ops.Bound.TheVariants.{Included}
use Rattle.std.specs.Ordering.{is_eq, is_lt, eq_by_cmp, ordering_reverse}
use Rattle.std.specs.FinMap.Entries.{put, where_key, by_order, is_sorted, below_all}
use Rattle.kfs_model.specs.Table.{Order}
use Rattle.kfs_model.proofs.Tables.{left_part, right_part, find_below}
use Rattle.kfs_maps.specs.declared.chunks.entries.KeyEdit.{KeyEdit}
use Rattle.kfs_maps.specs.Chunks.Edits.{entered, entered_all, KeysAscend}
use Rattle.kfs_maps.specs.Chunks.Joined.{IsSized}
use Rattle.kfs_maps.specs.Chunks.Starts.{is_from, first_from, entry_from}
use Rattle.kfs_maps.proofs.ChunksLemmas.Sorted.{as_less, less_from, first_is, kept_without, is_sorted-entered}

-- a choice that is none took its other side, which is none
pub no_first : {X : Type 0} (b : Bool) (x : X) (o : Option X) → cond b (Some x) o ≡ None → (b ≡ false) × (o ≡ None)
no_first true x o none = absurd (let e : Some x ≡ None = none in cc)
no_first false x o none = (refl, none)

pub All-right : {X : Type 0} (P : X → Type 0) (xs ys : List X) → All P (xs ++ ys) → All P ys
All-right P [] ys all = all
All-right P (x ∷ xs) ys all = All-right P xs ys (All-tail P x (xs ++ ys) all)

module _ {K V : Type 0} (cmp : K → K → Ordering) where
  pub ascend-tail : (e : KeyEdit K V) (es : List (KeyEdit K V)) → KeysAscend cmp (e ∷ es) → KeysAscend cmp es
  ascend-tail e es ascend i j d less below = ascend (suc i) (suc j) d (omega (arith, less)) (omega (arith, below))

  -- the first edit is below the others
  pub ascend-head : (e : KeyEdit K V) (es : List (KeyEdit K V)) → KeysAscend cmp (e ∷ es) → All (λ l. cmp e.key l.key ≡ Less) es
  ascend-head e es ascend j d below = ascend 0 (suc j) d (omega arith) (omega (arith, below))

  pub entered_all-append : (es : List (K × V)) (mine later : List (KeyEdit K V)) → entered_all cmp es (mine ++ later) ≡ entered_all cmp (entered_all cmp es mine) later
  entered_all-append es [] later = refl
  entered_all-append es (e ∷ mine) later = entered_all-append (entered cmp es e.key e.value) mine later

module _ {K : Type 0} (R : Order K) where
  -- a key that is before the start k is met before it
  met_before : (k j : K) → is_from R.compare (Included k) j ≡ false → R.compare k j ≡ Greater
  met_before k j past = R.total.antisymm k j ∙ ap ordering_reverse (less_from _ past)

module _ {K V : Type 0} (R : Order K) where
  -- an edit behind the entries in front leaves them as they are
  entered_behind : (xs ys : List (K × V)) (k : K) (w : Option V) → entry_from R.compare (Included k) xs ≡ None → entered R.compare (xs ++ ys) k w ≡ xs ++ entered R.compare ys k w
  entered_behind [] ys k w none = refl
  entered_behind (x ∷ xs) ys k w none =
      let parts = no_first _ x _ none in
      at w (met_before R k x.0 parts.0) (entered_behind xs ys k w parts.1)
    where
      at : (w : Option V) → R.compare k x.0 ≡ Greater → entered R.compare (xs ++ ys) k w ≡ xs ++ entered R.compare ys k w → entered R.compare (x ∷ xs ++ ys) k w ≡ x ∷ xs ++ entered R.compare ys k w
      at None p rest = ap (λ r. cond (not (is_eq r)) (x ∷ where_key R.compare (λ j. not (eq_by_cmp R.compare k j)) (xs ++ ys)) (where_key R.compare (λ j. not (eq_by_cmp R.compare k j)) (xs ++ ys))) p ∙ ap (λ es. x ∷ es) rest
      at (Some v) p rest = ap (λ r. by_order r ((k, v) ∷ x ∷ xs ++ ys) ((x.0, v) ∷ xs ++ ys) (x ∷ put R.compare k v (xs ++ ys))) p ∙ ap (λ es. x ∷ es) rest

  put_first : (ys : List (K × V)) (k : K) (v : V) → T (below_all R.compare k ys) → put R.compare k v ys ≡ (k, v) ∷ ys
  put_first [] k v below = refl
  put_first (y ∷ ys) k v below = ap (λ r. by_order r ((k, v) ∷ y ∷ ys) ((y.0, v) ∷ ys) (y ∷ put R.compare k v ys)) (as_less _ (left_part _ _ below))

  -- an edit before the entries behind leaves them as they are
  entered_before : (xs ys : List (K × V)) (k : K) (w : Option V) → T (below_all R.compare k ys) → entered R.compare (xs ++ ys) k w ≡ entered R.compare xs k w ++ ys
  entered_before [] ys k None below = kept_without R k ys (ap is_some (find_below R k ys below))
  entered_before [] ys k (Some v) below = put_first ys k v below
  entered_before (x ∷ xs) ys k None below = at (eq_by_cmp R.compare k x.0) (entered_before xs ys k None below)
    where
      kept : List (K × V)
      kept = where_key R.compare (λ j. not (eq_by_cmp R.compare k j)) (xs ++ ys)

      mine : List (K × V)
      mine = where_key R.compare (λ j. not (eq_by_cmp R.compare k j)) xs

      at : (b : Bool) → kept ≡ mine ++ ys → cond (not b) (x ∷ kept) kept ≡ cond (not b) (x ∷ mine) mine ++ ys
      at true rest = rest
      at false rest = ap (λ es. x ∷ es) rest
  entered_before (x ∷ xs) ys k (Some v) below = at (R.compare k x.0) (entered_before xs ys k (Some v) below)
    where
      at : (r : Ordering) → put R.compare k v (xs ++ ys) ≡ put R.compare k v xs ++ ys
          → by_order r ((k, v) ∷ x ∷ xs ++ ys) ((x.0, v) ∷ xs ++ ys) (x ∷ put R.compare k v (xs ++ ys)) ≡ by_order r ((k, v) ∷ x ∷ xs) ((x.0, v) ∷ xs) (x ∷ put R.compare k v xs) ++ ys
      at Less rest = refl
      at Equal rest = refl
      at Greater rest = ap (λ es. x ∷ es) rest

  -- an edit of an earlier key brings no entry from the key on
  none_after_entry : (xs : List (K × V)) (j k : K) (w : Option V) → R.compare j k ≡ Less → entry_from R.compare (Included k) xs ≡ None → entry_from R.compare (Included k) (entered R.compare xs j w) ≡ None
  none_after_entry [] j k None less none = refl
  none_after_entry [] j k (Some v) less none = ap (λ r. cond (not (is_lt r)) (Some (j, v)) None) less
  none_after_entry (x ∷ xs) j k None less none =
      let parts = no_first _ x _ none in
      at (eq_by_cmp R.compare j x.0) parts.0 (none_after_entry xs j k None less parts.1)
    where
      kept : List (K × V)
      kept = where_key R.compare (λ l. not (eq_by_cmp R.compare j l)) xs

      at : (b : Bool) → is_from R.compare (Included k) x.0 ≡ false → entry_from R.compare (Included k) kept ≡ None → entry_from R.compare (Included k) (cond (not b) (x ∷ kept) kept) ≡ None
      at true past rest = rest
      at false past rest = ap (λ t. cond t (Some x) (entry_from R.compare (Included k) kept)) past ∙ rest
  none_after_entry (x ∷ xs) j k (Some v) less none =
      let parts = no_first _ x _ none in
      at (R.compare j x.0) parts.0 parts.1 (none_after_entry xs j k (Some v) less parts.1)
    where
      at : (r : Ordering) → is_from R.compare (Included k) x.0 ≡ false → entry_from R.compare (Included k) xs ≡ None → entry_from R.compare (Included k) (put R.compare j v xs) ≡ None
          → entry_from R.compare (Included k) (by_order r ((j, v) ∷ x ∷ xs) ((x.0, v) ∷ xs) (x ∷ put R.compare j v xs)) ≡ None
      at Less past old rest = ap (λ r. cond (not (is_lt r)) (Some (j, v)) (entry_from R.compare (Included k) (x ∷ xs))) less ∙ ap (λ t. cond t (Some x) (entry_from R.compare (Included k) xs)) past ∙ old
      at Equal past old rest = ap (λ t. cond t (Some (x.0, v)) (entry_from R.compare (Included k) xs)) past ∙ old
      at Greater past old rest = ap (λ t. cond t (Some x) (entry_from R.compare (Included k) (put R.compare j v xs))) past ∙ rest

  -- an entry below a key is counted before it
  one_before : (q : K) (e : K × V) (es : List (K × V)) → R.compare e.0 q ≡ Less → first_from R.compare (Included q) (e ∷ es) ≡ suc (first_from R.compare (Included q) es)
  one_before q e es less = ap (λ r. cond (not (is_lt r)) 0 (suc (first_from R.compare (Included q) es))) less

  -- a key above that of an entry which is set stands behind this
  pub behind_put : (k q : K) (v : V) (es : List (K × V)) → R.compare k q ≡ Less → suc (first_from R.compare (Included k) es) ≤ first_from R.compare (Included q) (put R.compare k v es)
  behind_put k q v [] less = omega (arith, one_before q (k, v) [] less)
  behind_put k q v (e ∷ es) less = at (R.compare k e.0) refl (behind_put k q v es less)
    where
      choice : (r : Ordering) → R.compare k e.0 ≡ r
          → first_from R.compare (Included q) (put R.compare k v (e ∷ es)) ≡ first_from R.compare (Included q) (by_order r ((k, v) ∷ e ∷ es) ((e.0, v) ∷ es) (e ∷ put R.compare k v es))
      choice r p = ap (λ r. first_from R.compare (Included q) (by_order r ((k, v) ∷ e ∷ es) ((e.0, v) ∷ es) (e ∷ put R.compare k v es))) p

      at : (r : Ordering) → R.compare k e.0 ≡ r → suc (first_from R.compare (Included k) es) ≤ first_from R.compare (Included q) (put R.compare k v es)
          → suc (first_from R.compare (Included k) (e ∷ es)) ≤ first_from R.compare (Included q) (put R.compare k v (e ∷ es))
      at Less p rest = omega (arith, first_is R k e es Less p, choice Less p, one_before q (k, v) (e ∷ es) less)
      at Equal p rest = omega (arith, first_is R k e es Equal p, choice Equal p, one_before q (e.0, v) es (subst (λ j. R.compare j q ≡ Less) (R.exact k e.0 p) less))
      at Greater p rest =
          let lower = R.total.trans e.0 k q (R.total.antisymm e.0 k ∙ ap ordering_reverse p) less in
          omega (arith, first_is R k e es Greater p, choice Greater p, one_before q e (put R.compare k v es) lower, rest)

  -- a key above that of an entry which is removed doesn't stand before its place
  pub behind_removed : (k q : K) (es : List (K × V)) → R.compare k q ≡ Less → first_from R.compare (Included k) es ≤ first_from R.compare (Included q) (entered R.compare es k None)
  behind_removed k q [] less = omega arith
  behind_removed k q (e ∷ es) less = at (R.compare k e.0) refl (behind_removed k q es less)
    where
      kept : List (K × V)
      kept = where_key R.compare (λ j. not (eq_by_cmp R.compare k j)) es

      at : (r : Ordering) → R.compare k e.0 ≡ r → first_from R.compare (Included k) es ≤ first_from R.compare (Included q) kept
          → first_from R.compare (Included k) (e ∷ es) ≤ first_from R.compare (Included q) (entered R.compare (e ∷ es) k None)
      at Less p rest = omega (arith, first_is R k e es Less p)
      at Equal p rest = omega (arith, first_is R k e es Equal p)
      at Greater p rest =
          let lower = R.total.trans e.0 k q (R.total.antisymm e.0 k ∙ ap ordering_reverse p) less in
          let same = ap (λ r. first_from R.compare (Included q) (cond (not (is_eq r)) (e ∷ kept) kept)) p in
          omega (arith, first_is R k e es Greater p, same, one_before q e kept lower, rest)

  -- edits behind the entries in front leave them as they are
  pub all_behind : (xs ys : List (K × V)) (es : List (KeyEdit K V)) → All (λ e. entry_from R.compare (Included e.key) xs ≡ None) es → entered_all R.compare (xs ++ ys) es ≡ xs ++ entered_all R.compare ys es
  all_behind xs ys [] none = refl
  all_behind xs ys (e ∷ es) none =
      ap (λ all. entered_all R.compare all es) (entered_behind xs ys e.key e.value (none 0 e (omega arith)))
      ∙ all_behind xs (entered R.compare ys e.key e.value) es (All-tail (λ (x : KeyEdit K V). entry_from R.compare (Included x.key) xs ≡ None) e es none)

  pub none_still : (xs : List (K × V)) (j : K) (w : Option V) (es : List (KeyEdit K V)) → All (λ l. R.compare j l.key ≡ Less) es → All (λ e. entry_from R.compare (Included e.key) xs ≡ None) es → All (λ e. entry_from R.compare (Included e.key) (entered R.compare xs j w) ≡ None) es
  none_still xs j w es less none i d below = none_after_entry xs j (slice_index_or es i d).key w (less i d below) (none i d below)

  -- edits of both parts, each made there, are made of both
  pub parts_edited : (xs ys : List (K × V)) (mine later : List (KeyEdit K V)) → KeysAscend R.compare (mine ++ later) → All (λ e. T (below_all R.compare e.key ys)) mine
      → All (λ e. entry_from R.compare (Included e.key) xs ≡ None) later → entered_all R.compare (xs ++ ys) (mine ++ later) ≡ entered_all R.compare xs mine ++ entered_all R.compare ys later
  parts_edited xs ys [] later ascend below none = all_behind xs ys later none
  parts_edited xs ys (e ∷ mine) later ascend below none =
      ap (λ all. entered_all R.compare all (mine ++ later)) (entered_before xs ys e.key e.value (below 0 e (omega arith)))
      ∙ parts_edited (entered R.compare xs e.key e.value) ys mine later (ascend-tail R.compare e (mine ++ later) ascend) (All-tail (λ (x : KeyEdit K V). T (below_all R.compare x.key ys)) e mine below)
      (none_still xs e.key e.value later (All-right (λ l. R.compare e.key l.key ≡ Less) mine later (ascend-head R.compare e (mine ++ later) ascend)) none)

  -- an edit leaves at most one entry more, and at most one less
  length-entered : (xs : List (K × V)) (k : K) (w : Option V) → T (is_sorted R.compare xs) → (length (entered R.compare xs k w) ≤ length xs + 1) × (length xs ≤ length (entered R.compare xs k w) + 1)
  length-entered [] k None sorted = (omega arith, omega arith)
  length-entered [] k (Some v) sorted = (omega arith, omega arith)
  length-entered (x ∷ xs) k None sorted = at (R.compare k x.0) refl (length-entered xs k None (right_part _ _ sorted))
    where
      kept : List (K × V)
      kept = where_key R.compare (λ j. not (eq_by_cmp R.compare k j)) xs

      at : (r : Ordering) → R.compare k x.0 ≡ r → (length kept ≤ length xs + 1) × (length xs ≤ length kept + 1)
          → (length (cond (not (is_eq (R.compare k x.0))) (x ∷ kept) kept) ≤ suc (length xs) + 1) × (suc (length xs) ≤ length (cond (not (is_eq (R.compare k x.0))) (x ∷ kept) kept) + 1)
      at Less p rest = let same = ap (λ r. length (cond (not (is_eq r)) (x ∷ kept) kept)) p in (omega (arith, same, rest.0), omega (arith, same, rest.1))
      at Greater p rest = let same = ap (λ r. length (cond (not (is_eq r)) (x ∷ kept) kept)) p in (omega (arith, same, rest.0), omega (arith, same, rest.1))
      at Equal p rest =
          let same = ap (λ r. length (cond (not (is_eq r)) (x ∷ kept) kept)) p in
          let below : T (below_all R.compare k xs) = subst (λ j. T (below_all R.compare j xs)) (sym (R.exact k x.0 p)) (left_part _ _ sorted) in
          let all = ap length (kept_without R k xs (ap is_some (find_below R k xs below))) in
          (omega (arith, same, all), omega (arith, same, all))
  length-entered (x ∷ xs) k (Some v) sorted = at (R.compare k x.0) (length-entered xs k (Some v) (right_part _ _ sorted))
    where
      more : List (K × V)
      more = put R.compare k v xs

      at : (r : Ordering) → (length more ≤ length xs + 1) × (length xs ≤ length more + 1)
          → (length (by_order r ((k, v) ∷ x ∷ xs) ((x.0, v) ∷ xs) (x ∷ more)) ≤ suc (length xs) + 1) × (suc (length xs) ≤ length (by_order r ((k, v) ∷ x ∷ xs) ((x.0, v) ∷ xs) (x ∷ more)) + 1)
      at Less rest = (omega arith, omega arith)
      at Equal rest = (omega arith, omega arith)
      at Greater rest = (omega (arith, rest.0), omega (arith, rest.1))

  pub is_sorted-all : (xs : List (K × V)) (es : List (KeyEdit K V)) → T (is_sorted R.compare xs) → T (is_sorted R.compare (entered_all R.compare xs es))
  is_sorted-all xs [] sorted = sorted
  is_sorted-all xs (e ∷ es) sorted = is_sorted-all (entered R.compare xs e.key e.value) es (is_sorted-entered R xs e.key e.value sorted)

  -- and so they do where the edits are made or not
  pub is_sorted-if : (made : Bool) (xs : List (K × V)) (es : List (KeyEdit K V)) → T (is_sorted R.compare xs) → T (is_sorted R.compare (cond made (entered_all R.compare xs es) xs))
  is_sorted-if true xs es sorted = is_sorted-all xs es sorted
  is_sorted-if false xs es sorted = sorted

  -- so many edits leave at most so many entries more, and at most so many less
  pub length-all : (xs : List (K × V)) (es : List (KeyEdit K V)) → T (is_sorted R.compare xs)
      → (length (entered_all R.compare xs es) ≤ length xs + length es) × (length xs ≤ length (entered_all R.compare xs es) + length es)
  length-all xs [] sorted = (omega arith, omega arith)
  length-all xs (e ∷ es) sorted =
      let one = length-entered xs e.key e.value sorted in
      let rest = length-all (entered R.compare xs e.key e.value) es (is_sorted-entered R xs e.key e.value sorted) in
      (omega (arith, one.0, rest.0), omega (arith, one.1, rest.1))

  -- entries stay as many as a chunk may have, where there are fewer edits than entries, and room for as many
  pub sized_still : (xs : List (K × V)) (es : List (KeyEdit K V)) → T (is_sorted R.compare xs) → length es < length xs → length xs + length es ≤ 256 → IsSized (entered_all R.compare xs es)
  sized_still xs es sorted fewer room = let sizes = length-all xs es sorted in (omega (arith, sizes.1, fewer), omega (arith, sizes.0, room))
