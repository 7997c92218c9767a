-- Where a key stands among sorted entries, and what an edit makes of them.
use Rattle.std.proofs.Common.{◌≡◌, ◌<◌, ◌≤◌, ℕ, zero, suc, Bool, true, false, cond, not, ◌&&◌, T, List, [], ◌∷◌, length, get_or, slice_set, Result, Ok, Err, Option, Some, None, refl, sym, ap, subst, ◌∙◌, arith}
use Rattle.std.specs.Prelude.{IsSome, is_some}
use Rattle.std.specs.declared.cmp.Ordering.{Ordering}
use Rattle.std.specs.declared.cmp.Ordering.TheVariants.{Less, Equal, Greater}
use Rattle.std.specs.declared.ops.Bound.{Bound}
use Rattle.std.specs.declared.ops.Bound.TheVariants.{Included, Excluded, Unbounded}
use Rattle.std.specs.Ordering.{is_eq, is_lt, is_gt, eq_by_cmp}
use Rattle.std.specs.Cmp.{IsTotalOrder, upto, tied_itself}
use Rattle.std.specs.List.{insert, remove}
use Rattle.std.specs.List.Sorted.{IsPartitionedBy}
use Rattle.std.specs.FinMap.{IsAntisymmetric}
use Rattle.std.specs.FinMap.Entries.{find, put, where_key, by_order, is_sorted, below_all, is_sorted-put, is_sorted-where_key}
use Rattle.kfs_model.specs.Table.{Order}
use Rattle.kfs_model.proofs.Tables.{left_part, right_part, find_below, find_head, find_behind}
use Rattle.kfs_maps.specs.Chunks.Edits.{entered}
use Rattle.kfs_maps.specs.Chunks.Starts.{before, is_from, first_from}
use Rattle.kfs_maps.proofs.ChunksLemmas.Order.{true_or_false, un_not, flipped, before_within}

module _ {K : Type 0} (R : Order K) where
  -- the order, by a comparison that is its own
  abbrev pub order_by : (cmp : K → K → Ordering) → cmp ≡ R.compare → Order K
  order_by cmp same = record { compare = cmp; total = subst IsTotalOrder (sym same) R.total; exact = subst IsAntisymmetric (sym same) R.exact }

module _ {X : Type 0} (test : X → Bool) where
  pub before_passes : (xs : List X) (d : X) → before test xs < length xs → test (get_or xs (before test xs) d) ≡ true
  before_passes [] d within = absurd (omega (arith, within))
  before_passes (x ∷ xs) d within = at (before_passes xs d) (test x) refl within
    where
      at : (before test xs < length xs → test (get_or xs (before test xs) d) ≡ true)
          → (b : Bool) → test x ≡ b → cond b 0 (suc (before test xs)) < suc (length xs) → test (get_or (x ∷ xs) (cond b 0 (suc (before test xs))) d) ≡ true
      at rest true e within = e
      at rest false e within = rest (omega (arith, within))

pub as_less : (r : Ordering) → T (is_lt r) → r ≡ Less
as_less Less t = refl
as_less Equal t = absurd t
as_less Greater t = absurd t

pub less_from : (r : Ordering) → not (is_lt r) ≡ false → r ≡ Less
less_from Less e = refl
less_from Equal e = absurd (true_or_false true refl e)
less_from Greater e = absurd (true_or_false true refl e)

pub not_some : {V : Type 0} (o : Option V) → is_some o ≡ false → o ≡ None
not_some None out = refl
not_some (Some v) out = absurd (true_or_false true refl out)

module _ {K : Type 0} (R : Order K) where
  -- what is below a key before the start is before the start
  pub earlier : (start : Bound K) (k l : K) → R.compare k l ≡ Less → is_from R.compare start l ≡ false → is_from R.compare start k ≡ false
  earlier (Included a) k l less past = ap (λ r. not (is_lt r)) (R.total.trans k l a less (less_from _ past))
  earlier (Excluded a) k l less past = upto R.total k l a (ap is_gt less) past
  earlier Unbounded k l less past = past

  -- a key is from itself on
  pub from_itself : (k : K) → is_from R.compare (Included k) k ≡ true
  from_itself k = ap (λ r. not (is_lt r)) (tied_itself R.total k)

module _ {K V : Type 0} (R : Order K) where
  -- a key at an index behind the first is above it
  pub first_below : (k : K) (es : List (K × V)) (j : ℕ) (d : K × V) → T (below_all R.compare k es) → j < length es → R.compare k (get_or es j d).0 ≡ Less
  first_below k [] j d below within = absurd (omega (arith, within))
  first_below k (e ∷ es) zero d below within = as_less _ (left_part _ _ below)
  first_below k (e ∷ es) (suc j) d below within = first_below k es j d (right_part _ _ below) (omega (arith, within))

  -- the entries before a start stand before the others
  pub parted_from : (start : Bound K) (es : List (K × V)) → T (is_sorted R.compare es) → IsPartitionedBy (λ (e : K × V). not (is_from R.compare start e.0)) es
  parted_from start [] sorted i j d le below past = absurd (omega (arith, below))
  parted_from start (e ∷ es) sorted zero zero d le below past = past
  parted_from start (e ∷ es) sorted zero (suc j) d le below past =
      ap not (earlier R start e.0 (get_or es j d).0 (first_below e.0 es j d (left_part _ _ sorted) (omega (arith, below))) (un_not _ past))
  parted_from start (e ∷ es) sorted (suc i) zero d le below past = absurd (omega (arith, le))
  parted_from start (e ∷ es) sorted (suc i) (suc j) d le below past = parted_from start es (right_part _ _ sorted) i j d (omega (arith, le)) (omega (arith, below)) past

  -- an entry is what is found at its key
  pub find_itself : (es : List (K × V)) (i : ℕ) (d : K × V) → T (is_sorted R.compare es) → i < length es → find R.compare (get_or es i d).0 es ≡ Some (get_or es i d).1
  find_itself [] i d sorted within = absurd (omega (arith, within))
  find_itself (e ∷ es) zero d sorted within = find_head R e es
  find_itself (e ∷ es) (suc i) d sorted within = find_behind R (get_or es i d).0 (get_or es i d).1 e es sorted (find_itself es i d (right_part _ _ sorted) (omega (arith, within)))

  -- a key that isn't before the start isn't that of an entry before it
  pub passed_over : (start : Bound K) (q : K) (e : K × V) (es : List (K × V)) → is_from R.compare start q ≡ true → is_from R.compare start e.0 ≡ false → find R.compare q (e ∷ es) ≡ find R.compare q es
  passed_over start q e es from past = at (R.compare q e.0) refl
    where
      at : (r : Ordering) → R.compare q e.0 ≡ r → find R.compare q (e ∷ es) ≡ find R.compare q es
      at Less p = ap (λ r. cond (is_eq r) (Some e.1) (find R.compare q es)) p
      at Equal p = absurd (true_or_false true refl (sym from ∙ ap (is_from R.compare start) (R.exact q e.0 p) ∙ past))
      at Greater p = ap (λ r. cond (is_eq r) (Some e.1) (find R.compare q es)) p

  -- where no entry is from the start on, nothing is found there
  pub none_from : (start : Bound K) (es : List (K × V)) (q : K) → length es ≤ first_from R.compare start es → is_from R.compare start q ≡ true → find R.compare q es ≡ None
  none_from start [] q past from = refl
  none_from start (e ∷ es) q past from = at (λ less. none_from start es q less from) (is_from R.compare start e.0) refl past
    where
      at : (length es ≤ first_from R.compare start es → find R.compare q es ≡ None) → (b : Bool) → is_from R.compare start e.0 ≡ b → suc (length es) ≤ cond b 0 (suc (first_from R.compare start es)) → find R.compare q (e ∷ es) ≡ None
      at rest true here past = absurd (omega (arith, past))
      at rest false here past = passed_over start q e es from here ∙ rest (omega (arith, past))

  pub below_lower : (k l : K) (es : List (K × V)) → R.compare k l ≡ Less → T (below_all R.compare l es) → T (below_all R.compare k es)
  below_lower k l [] less below = tt
  below_lower k l (e ∷ es) less below =
      subst T (sym (ap (λ r. is_lt r && below_all R.compare k es) (R.total.trans k l e.0 less (as_less _ (left_part _ _ below))))) (below_lower k l es less (right_part _ _ below))

  pub none_lower : (q : K) (e : K × V) (es : List (K × V)) → R.compare q e.0 ≡ Less → T (below_all R.compare e.0 es) → find R.compare q (e ∷ es) ≡ None
  none_lower q e es less below = ap (λ r. cond (is_eq r) (Some e.1) (find R.compare q es)) less ∙ find_below R q es (below_lower q e.0 es less below)

  -- nothing is found from the start on below the first entry there
  pub least_from : (start : Bound K) (es : List (K × V)) (d : K × V) (q : K) → T (is_sorted R.compare es) → first_from R.compare start es < length es → is_from R.compare start q ≡ true
      → IsSome (find R.compare q es) → is_lt (R.compare q (get_or es (first_from R.compare start es) d).0) ≡ false
  least_from start [] d q sorted within from some = absurd (omega (arith, within))
  least_from start (e ∷ es) d q sorted within from some = at (λ less. least_from start es d q (right_part _ _ sorted) less from) (is_from R.compare start e.0) refl within
    where
      first : (r : Ordering) → R.compare q e.0 ≡ r → is_lt (R.compare q e.0) ≡ false
      first Less p = absurd (true_or_false true refl (sym some ∙ ap is_some (none_lower q e es p (left_part _ _ sorted))))
      first Equal p = ap is_lt p
      first Greater p = ap is_lt p

      at : (first_from R.compare start es < length es → IsSome (find R.compare q es) → is_lt (R.compare q (get_or es (first_from R.compare start es) d).0) ≡ false)
          → (b : Bool) → is_from R.compare start e.0 ≡ b → cond b 0 (suc (first_from R.compare start es)) < suc (length es)
          → is_lt (R.compare q (get_or (e ∷ es) (cond b 0 (suc (first_from R.compare start es))) d).0) ≡ false
      at rest true here within = first (R.compare q e.0) refl
      at rest false here within = rest (omega (arith, within)) (ap is_some (sym (passed_over start q e es from here)) ∙ some)

  -- the key has the entry at the index
  pub record StandsAt (k : K) (es : List (K × V)) (at : ℕ) : Type 0 where
    pub within : at < length es
    pub value : (d : K × V) → find R.compare k es ≡ Some (get_or es at d).1
    pub replaced : (v : V) (d : K × V) → put R.compare k v es ≡ slice_set es at ((get_or es at d).0, v)
    pub removed : where_key R.compare (λ j. not (eq_by_cmp R.compare k j)) es ≡ remove es at

  -- no entry has the key, which would stand at the index
  pub record FitsAt (k : K) (es : List (K × V)) (at : ℕ) : Type 0 where
    pub within : at ≤ length es
    pub none : find R.compare k es ≡ None
    pub put_there : (v : V) → put R.compare k v es ≡ insert es at (k, v)
    pub kept : where_key R.compare (λ j. not (eq_by_cmp R.compare k j)) es ≡ es

  -- where a key stands by the first entry
  pub first_is : (k : K) (e : K × V) (es : List (K × V)) (r : Ordering) → R.compare k e.0 ≡ r → first_from R.compare (Included k) (e ∷ es) ≡ cond (is_gt r) (suc (first_from R.compare (Included k) es)) 0
  first_is k e es r p = ap (λ b. cond (not b) 0 (suc (first_from R.compare (Included k) es))) (flipped R.total e.0 k ∙ ap is_gt p) ∙ turn (is_gt r)
    where
      turn : (b : Bool) → cond (not b) 0 (suc (first_from R.compare (Included k) es)) ≡ cond b (suc (first_from R.compare (Included k) es)) 0
      turn true = refl
      turn false = refl

  pub kept_without : (k : K) (es : List (K × V)) → is_some (find R.compare k es) ≡ false → where_key R.compare (λ j. not (eq_by_cmp R.compare k j)) es ≡ es
  kept_without k [] out = refl
  kept_without k (e ∷ es) out = at (kept_without k es) (eq_by_cmp R.compare k e.0) out
    where
      at : (is_some (find R.compare k es) ≡ false → where_key R.compare (λ j. not (eq_by_cmp R.compare k j)) es ≡ es)
          → (b : Bool) → is_some (cond b (Some e.1) (find R.compare k es)) ≡ false
          → cond (not b) (e ∷ where_key R.compare (λ j. not (eq_by_cmp R.compare k j)) es) (where_key R.compare (λ j. not (eq_by_cmp R.compare k j)) es) ≡ e ∷ es
      at rest true out = absurd (true_or_false true refl out)
      at rest false out = ap (λ es. e ∷ es) (rest out)

  pub stands_first : (k : K) (e : K × V) (es : List (K × V)) → R.compare k e.0 ≡ Equal → T (below_all R.compare e.0 es) → StandsAt k (e ∷ es) 0
  stands_first k e es p below =
      let rest = where_key R.compare (λ j. not (eq_by_cmp R.compare k j)) es in
      let out : find R.compare k es ≡ None = subst (λ j. find R.compare j es ≡ None) (sym (R.exact k e.0 p)) (find_below R e.0 es below) in
      record {
        within = omega arith;
        value = λ d. ap (λ r. cond (is_eq r) (Some e.1) (find R.compare k es)) p;
        replaced = λ v d. ap (λ r. by_order r ((k, v) ∷ e ∷ es) ((e.0, v) ∷ es) (e ∷ put R.compare k v es)) p;
        removed = ap (λ r. cond (not (is_eq r)) (e ∷ rest) rest) p ∙ kept_without k es (ap is_some out);
      }

  stands_behind : (k : K) (e : K × V) (es : List (K × V)) (at : ℕ) → R.compare k e.0 ≡ Greater → StandsAt k es at → StandsAt k (e ∷ es) (suc at)
  stands_behind k e es at p held =
      let rest = where_key R.compare (λ j. not (eq_by_cmp R.compare k j)) es in
      record {
        within = omega (arith, held.within);
        value = λ d. ap (λ r. cond (is_eq r) (Some e.1) (find R.compare k es)) p ∙ held.value d;
        replaced = λ v d. ap (λ r. by_order r ((k, v) ∷ e ∷ es) ((e.0, v) ∷ es) (e ∷ put R.compare k v es)) p ∙ ap (λ es. e ∷ es) (held.replaced v d);
        removed = ap (λ r. cond (not (is_eq r)) (e ∷ rest) rest) p ∙ ap (λ es. e ∷ es) held.removed;
      }

  -- a key that is found has the first entry from it on
  stands_there : (k : K) (es : List (K × V)) → T (is_sorted R.compare es) → is_some (find R.compare k es) ≡ true → StandsAt k es (first_from R.compare (Included k) es)
  stands_there k [] sorted some = absurd (true_or_false false some refl)
  stands_there k (e ∷ es) sorted some = at (stands_there k es (right_part _ _ sorted)) (R.compare k e.0) refl
    where
      at : (is_some (find R.compare k es) ≡ true → StandsAt k es (first_from R.compare (Included k) es))
          → (r : Ordering) → R.compare k e.0 ≡ r → StandsAt k (e ∷ es) (first_from R.compare (Included k) (e ∷ es))
      at rest Less p = absurd (true_or_false false (sym (ap is_some (none_lower k e es p (left_part _ _ sorted))) ∙ some) refl)
      at rest Equal p = subst (StandsAt k (e ∷ es)) (sym (first_is k e es Equal p)) (stands_first k e es p (left_part _ _ sorted))
      at rest Greater p =
          subst (StandsAt k (e ∷ es)) (sym (first_is k e es Greater p))
          (stands_behind k e es _ p (rest (sym (ap (λ r. is_some (cond (is_eq r) (Some e.1) (find R.compare k es))) p) ∙ some)))

  put_without : (k : K) (v : V) (es : List (K × V)) → is_some (find R.compare k es) ≡ false → put R.compare k v es ≡ insert es (first_from R.compare (Included k) es) (k, v)
  put_without k v [] out = refl
  put_without k v (e ∷ es) out = at (put_without k v es) (R.compare k e.0) refl
    where
      choice : (r : Ordering) → R.compare k e.0 ≡ r → put R.compare k v (e ∷ es) ≡ by_order r ((k, v) ∷ e ∷ es) ((e.0, v) ∷ es) (e ∷ put R.compare k v es)
      choice r p = ap (λ r. by_order r ((k, v) ∷ e ∷ es) ((e.0, v) ∷ es) (e ∷ put R.compare k v es)) p

      at : (is_some (find R.compare k es) ≡ false → put R.compare k v es ≡ insert es (first_from R.compare (Included k) es) (k, v))
          → (r : Ordering) → R.compare k e.0 ≡ r → put R.compare k v (e ∷ es) ≡ insert (e ∷ es) (first_from R.compare (Included k) (e ∷ es)) (k, v)
      at rest Less p = choice Less p ∙ ap (λ n. insert (e ∷ es) n (k, v)) (sym (first_is k e es Less p))
      at rest Equal p = absurd (true_or_false true refl (sym (ap (λ r. is_some (cond (is_eq r) (Some e.1) (find R.compare k es))) p) ∙ out))
      at rest Greater p =
          choice Greater p
          ∙ ap (λ es. e ∷ es) (rest (sym (ap (λ r. is_some (cond (is_eq r) (Some e.1) (find R.compare k es))) p) ∙ out))
          ∙ ap (λ n. insert (e ∷ es) n (k, v)) (sym (first_is k e es Greater p))

  -- a key that isn't found would stand there
  fits_there : (k : K) (es : List (K × V)) → is_some (find R.compare k es) ≡ false → FitsAt k es (first_from R.compare (Included k) es)
  fits_there k es out = record {
    within = before_within (λ (e : K × V). is_from R.compare (Included k) e.0) es;
    none = not_some (find R.compare k es) out;
    put_there = λ v. put_without k v es out;
    kept = kept_without k es out;
  }

  -- whether a key is found shows at the first entry from it on
  some_there : (k : K) (es : List (K × V)) (d : K × V) → T (is_sorted R.compare es) → first_from R.compare (Included k) es < length es
      → is_some (find R.compare k es) ≡ eq_by_cmp R.compare k (get_or es (first_from R.compare (Included k) es) d).0
  some_there k [] d sorted within = absurd (omega (arith, within))
  some_there k (e ∷ es) d sorted within = at (some_there k es d (right_part _ _ sorted)) (R.compare k e.0) refl
    where
      at : (first_from R.compare (Included k) es < length es → is_some (find R.compare k es) ≡ eq_by_cmp R.compare k (get_or es (first_from R.compare (Included k) es) d).0)
          → (r : Ordering) → R.compare k e.0 ≡ r → is_some (find R.compare k (e ∷ es)) ≡ eq_by_cmp R.compare k (get_or (e ∷ es) (first_from R.compare (Included k) (e ∷ es)) d).0
      at rest Less p = ap is_some (none_lower k e es p (left_part _ _ sorted)) ∙ sym (ap (λ n. eq_by_cmp R.compare k (get_or (e ∷ es) n d).0) (first_is k e es Less p) ∙ ap is_eq p)
      at rest Equal p = ap (λ r. is_some (cond (is_eq r) (Some e.1) (find R.compare k es))) p ∙ sym (ap (λ n. eq_by_cmp R.compare k (get_or (e ∷ es) n d).0) (first_is k e es Equal p) ∙ ap is_eq p)
      at rest Greater p =
          ap (λ r. is_some (cond (is_eq r) (Some e.1) (find R.compare k es))) p
          ∙ rest (omega (arith, within, first_is k e es Greater p))
          ∙ sym (ap (λ n. eq_by_cmp R.compare k (get_or (e ∷ es) n d).0) (first_is k e es Greater p))

  -- what a search answers
  abbrev pub searched : K → List (K × V) → Result ℕ ℕ
  searched k es = cond (is_some (find R.compare k es)) (Ok (first_from R.compare (Included k) es)) (Err (first_from R.compare (Included k) es))

  -- the answer where the first entry from the key on is this one
  pub searched_at : (k : K) (es : List (K × V)) (at : ℕ) (e : K × V) → T (is_sorted R.compare es) → at ≡ first_from R.compare (Included k) es → at < length es → e ≡ get_or es at e
      → searched k es ≡ cond (eq_by_cmp R.compare k e.0) (Ok at) (Err at)
  searched_at k es at e sorted same within here =
      let first = first_from R.compare (Included k) es in
      let tied : is_some (find R.compare k es) ≡ eq_by_cmp R.compare k e.0 =
      some_there k es e sorted (omega (arith, same, within)) ∙ ap (λ (d : K × V). eq_by_cmp R.compare k d.0) (ap (λ n. get_or es n e) (sym same) ∙ sym here) in
      ap (λ b. cond b (Ok first) (Err first)) tied ∙ ap (λ n. cond (eq_by_cmp R.compare k e.0) (Ok n) (Err n)) (sym same)

  -- the answer where no entry is from the key on
  pub searched_past : (k : K) (es : List (K × V)) (at : ℕ) → at ≡ first_from R.compare (Included k) es → length es ≤ at → searched k es ≡ Err at
  searched_past k es at same past =
      let first = first_from R.compare (Included k) es in
      ap (λ (o : Option V). cond (is_some o) (Ok first) (Err first)) (none_from (Included k) es k (omega (arith, same, past)) (from_itself R k)) ∙ ap Err (sym same)

  -- what is answered is the index of the first entry from the key on
  pub place_found : (k : K) (es : List (K × V)) (at : ℕ) → searched k es ≡ Ok at → at ≡ first_from R.compare (Included k) es
  place_found k es at answer = by (is_some (find R.compare k es)) answer
    where
      by : (b : Bool) → cond b (Ok (first_from R.compare (Included k) es)) (Err (first_from R.compare (Included k) es)) ≡ Ok at → at ≡ first_from R.compare (Included k) es
      by true answer = cc answer
      by false answer = cc answer

  pub place_free : (k : K) (es : List (K × V)) (at : ℕ) → searched k es ≡ Err at → at ≡ first_from R.compare (Included k) es
  place_free k es at answer = by (is_some (find R.compare k es)) answer
    where
      by : (b : Bool) → cond b (Ok (first_from R.compare (Included k) es)) (Err (first_from R.compare (Included k) es)) ≡ Err at → at ≡ first_from R.compare (Included k) es
      by true answer = cc answer
      by false answer = cc answer

  pub stands_where : (k : K) (es : List (K × V)) (at : ℕ) → T (is_sorted R.compare es) → searched k es ≡ Ok at → StandsAt k es at
  stands_where k es at sorted answer = by (is_some (find R.compare k es)) refl answer
    where
      by : (b : Bool) → is_some (find R.compare k es) ≡ b → cond b (Ok (first_from R.compare (Included k) es)) (Err (first_from R.compare (Included k) es)) ≡ Ok at → StandsAt k es at
      by true some answer = let same : first_from R.compare (Included k) es ≡ at = cc answer in subst (StandsAt k es) same (stands_there k es sorted some)
      by false out answer = cc answer

  pub fits_where : (k : K) (es : List (K × V)) (at : ℕ) → searched k es ≡ Err at → FitsAt k es at
  fits_where k es at answer = by (is_some (find R.compare k es)) refl answer
    where
      by : (b : Bool) → is_some (find R.compare k es) ≡ b → cond b (Ok (first_from R.compare (Included k) es)) (Err (first_from R.compare (Included k) es)) ≡ Err at → FitsAt k es at
      by true some answer = cc answer
      by false out answer = let same : first_from R.compare (Included k) es ≡ at = cc answer in subst (FitsAt k es) same (fits_there k es out)

  -- sorted entries stay sorted by an edit
  pub is_sorted-entered : (es : List (K × V)) (k : K) (w : Option V) → T (is_sorted R.compare es) → T (is_sorted R.compare (entered R.compare es k w))
  is_sorted-entered es k None sorted = is_sorted-where_key R.compare (λ j. not (eq_by_cmp R.compare k j)) es sorted
  is_sorted-entered es k (Some v) sorted = is_sorted-put R.compare R.total k v es sorted
