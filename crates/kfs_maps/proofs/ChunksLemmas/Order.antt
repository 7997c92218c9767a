-- Comparisons turned round, edits whose keys ascend, and counts of those before the first that passes a test.
use Rattle.std.proofs.Common.{◌≡◌, ◌<◌, ◌≤◌, ℕ, zero, suc, ◌+◌, Bool, true, false, cond, not, List, [], ◌∷◌, length, slice_index_or, refl, sym, ap, ◌∙◌, arith, take, drop, length-take, length-drop}
use Rattle.std.proofs.lemmas.List.{get_or-take, get_or-drop}
use Rattle.std.specs.declared.cmp.Ordering.{Ordering}
use Rattle.std.specs.declared.cmp.Ordering.TheVariants.{Less, Equal, Greater}
use Rattle.std.specs.Ordering.{is_lt, is_gt, ordering_reverse}
use Rattle.std.specs.Cmp.{IsTotalOrder, upto, tied_itself}
use Rattle.std.specs.List.Sorted.{IsPartitionPoint}
use Rattle.kfs_maps.specs.declared.chunks.entries.KeyEdit.{KeyEdit}
use Rattle.kfs_maps.specs.Chunks.Edits.{KeysAscend}
use Rattle.kfs_maps.specs.Chunks.Starts.{before}

turned : (r : Ordering) → is_lt (ordering_reverse r) ≡ is_gt r
turned Less = refl
turned Equal = refl
turned Greater = refl

pub true_or_false : (b : Bool) → b ≡ true → b ≡ false → ⊥
true_or_false true yes_ no_ = cc
true_or_false false yes_ no_ = cc

pub un_not : (b : Bool) → not b ≡ true → b ≡ false
un_not true e = sym e
un_not false e = refl

module _ {K : Type 0} {cmp : K → K → Ordering} (o : IsTotalOrder cmp) where
  pub flipped : (a b : K) → is_lt (cmp a b) ≡ is_gt (cmp b a)
  flipped a b = ap is_lt (o.antisymm a b) ∙ turned (cmp b a)

  -- not below one that is not below a third
  pub not_below : (a b c : K) → is_lt (cmp a b) ≡ false → is_lt (cmp b c) ≡ false → is_lt (cmp a c) ≡ false
  not_below a b c p q = flipped a c ∙ upto o c b a (sym (flipped b c) ∙ q) (sym (flipped a b) ∙ p)

module _ {X : Type 0} (test : X → Bool) where
  pub before_within : (xs : List X) → before test xs ≤ length xs
  before_within [] = omega arith
  before_within (x ∷ xs) = at (test x) (before_within xs)
    where
      at : (b : Bool) → before test xs ≤ length xs → cond b 0 (suc (before test xs)) ≤ suc (length xs)
      at true rest = omega arith
      at false rest = omega (arith, rest)

  -- of those that come before, the rest is counted behind the first few
  pub before_rest : (xs : List X) (n : ℕ) → n ≤ before test xs → n + before test (drop n xs) ≡ before test xs
  before_rest xs zero le = omega arith
  before_rest [] (suc n) le = absurd (omega (arith, le))
  before_rest (x ∷ xs) (suc n) le = at (before_rest xs n) (test x) le
    where
      at : (n ≤ before test xs → n + before test (drop n xs) ≡ before test xs) → (b : Bool) → suc n ≤ cond b 0 (suc (before test xs)) → suc n + before test (drop n xs) ≡ cond b 0 (suc (before test xs))
      at rest true le = absurd (omega (arith, le))
      at rest false le = omega (arith, rest (omega (arith, le)))

  -- a partition point is how many come before the first that passes
  pub before_is : (xs : List X) (i : ℕ) → i ≤ length xs → IsPartitionPoint (λ y. not (test y) ≡ true) (λ y. not (test y) ≡ false) xs i → before test xs ≡ i
  before_is [] i le point = omega (arith, le)
  before_is (x ∷ xs) zero le point = at (test x) (point.1 0 x (omega arith) (omega arith))
    where
      at : (b : Bool) → not b ≡ false → cond b 0 (suc (before test xs)) ≡ 0
      at true e = refl
      at false e = absurd (true_or_false true refl e)
  before_is (x ∷ xs) (suc i) le point =
      at (test x) (point.0 0 x (omega arith) (omega arith)) (before_is xs i (omega (arith, le)) (λ k d low high. point.0 (suc k) d (omega arith) (omega (arith, high)), λ k d low high. point.1 (suc k) d (omega (arith, low)) (omega (arith, high))))
    where
      at : (b : Bool) → not b ≡ true → before test xs ≡ i → cond b 0 (suc (before test xs)) ≡ suc i
      at true e rest = absurd (true_or_false false e refl)
      at false e rest = ap suc rest

module _ {K V : Type 0} {cmp : K → K → Ordering} (o : IsTotalOrder cmp) where
  -- no edit is below an earlier one, nor below itself
  pub not_earlier : (es : List (KeyEdit K V)) (i k : ℕ) (d : KeyEdit K V) → KeysAscend cmp es → i + k < length es → is_lt (cmp (slice_index_or es (i + k) d).key (slice_index_or es i d).key) ≡ false
  not_earlier es i zero d ascend below =
      ap (λ n. is_lt (cmp (slice_index_or es n d).key (slice_index_or es i d).key)) {x = i + 0} {y = i} (omega arith) ∙ ap is_lt (tied_itself o (slice_index_or es i d).key)
  not_earlier es i (suc k) d ascend below = flipped o _ _ ∙ ap is_gt (ascend i (i + suc k) d (omega arith) below)

module _ {K V : Type 0} (cmp : K → K → Ordering) where
  pub ascend_drop : (es : List (KeyEdit K V)) (r : ℕ) → KeysAscend cmp es → KeysAscend cmp (drop r es)
  ascend_drop es r ascend i j d less below =
      ap (λ (e : KeyEdit K V). cmp e.key (slice_index_or (drop r es) j d).key) (get_or-drop r es i d)
      ∙ ap (λ (e : KeyEdit K V). cmp (slice_index_or es (r + i) d).key e.key) (get_or-drop r es j d)
      ∙ ascend (r + i) (r + j) d (omega (arith, less)) (omega (arith, below, length-drop r es))

  pub ascend_take : (es : List (KeyEdit K V)) (r : ℕ) → KeysAscend cmp es → KeysAscend cmp (take r es)
  ascend_take es r ascend i j d less below =
      let in_run : j < r = omega (arith, below, length-take r es) in
      let in_all : j < length es = omega (arith, below, length-take r es) in
      ap (λ (e : KeyEdit K V). cmp e.key (slice_index_or (take r es) j d).key) (get_or-take r es i d (omega (arith, less, in_run)))
      ∙ ap (λ (e : KeyEdit K V). cmp (slice_index_or es i d).key e.key) (get_or-take r es j d in_run)
      ∙ ascend i j d less in_all
