-- Ranges laid over others begin and end where those began or ended. So they are at most twice as many.
use Rattle.std.proofs.Common.{◌≡◌, ℕ, ◌+◌, ◌*◌, ◌<◌, ◌≤◌, ◌⊎◌, inr, Bool, true, false, cond, ◌&&◌, ltb, eqb, List, [], ◌∷◌, ◌++◌, length, take, drop, count_by, Option, Some, None, refl, sym, ap, ◌∙◌, arith, lt-ltb}
use Rattle.std.proofs.lemmas.Bool.Decides.{nat_tests}
use Rattle.std.proofs.lemmas.List.Sums.{count_by-le-length, sum_by-append, sum_by-cons}
use Rattle.std.proofs.Math.ListN.{take-append-drop}
use Rattle.kfs_model.specs.Plan.{ComesBy}
use Rattle.kfs_pieces.specs.declared.merge.ByteRange.{ByteRange}
use Rattle.kfs_pieces.specs.declared.log.FileSize.{FileSize}
use Rattle.kfs_pieces.specs.ByteRanges.{AreFrom, ends_by, begins_before, cut_below, cut_from, merged}
use Rattle.kfs_pieces.specs.Made.{Reach, made, pieces_made, put_before, range_of}
use Rattle.kfs_pieces.specs.RangeCounts.{edge_count, filled_count, grown_count}
use Rattle.kfs_pieces.specs.Sizes.{growth_of, growths}
use Rattle.kfs_pieces.proofs.Merging.{begins_from, cut_from_from, ends_from, goes_past, lies_behind}

-- ---- over plain numbers: what a range adds that begins at the second place, seen from the first one

abbrev added : (n p m q : ℕ) → ℕ
added n p m q = cond (eqb m n && eqb q p) 1 2

added_least : (n p m q : ℕ) → 1 ≤ added n p m q
added_least n p m q = at (eqb m n && eqb q p)
  where
    at : (b : Bool) → 1 ≤ cond b 1 2
    at true = omega arith
    at false = omega arith

added_few : (b : Bool) → cond b 1 2 ≤ 2
added_few true = omega arith
added_few false = omega arith

added_at : (n p m : ℕ) → m ≡ n → added n p m p ≡ 1
added_at n p m h = ap (λ b. cond b 1 2) (let same : (eqb m n && eqb p p) ≡ true = grind (arith, nat_tests) in same)

added_behind : (n p m q : ℕ) → (n < m) ⊎ ((n ≡ m) × (p < q)) → added n p m q ≡ 2
added_behind n p m q h = ap (λ b. cond b 1 2) (let apart : (eqb m n && eqb q p) ≡ false = grind (arith, nat_tests) in apart)

-- seen from a place nearer by it adds no more
added_nearer : (k i n p m q : ℕ) → ComesBy k i n p → ComesBy n p m q → added n p m q ≤ added k i m q
added_nearer k i n p m q near far = at (eqb m n && eqb q p) refl (eqb m k && eqb q i) refl
  where
    at : (a : Bool) → (eqb m n && eqb q p) ≡ a → (b : Bool) → (eqb m k && eqb q i) ≡ b → cond a 1 2 ≤ cond b 1 2
    at true x true y = omega arith
    at true x false y = omega arith
    at false x true y = let never : ⊥ = grind (arith, nat_tests) in absurd never
    at false x false y = omega arith

-- ---- lists in order

module _ (n p : ℕ) where
  -- the back of a list has no more edges
  back_edges : (k i : ℕ) (ss : List ByteRange) → AreFrom k i ss → ComesBy k i n p → edge_count n p (cut_from n p ss) ≤ edge_count k i ss
  unfolding cut_from edge_count
  back_edges k i [] from h = omega arith
  back_edges k i (s ∷ ss) from h = at (ends_by n p s) refl (begins_before n p s) refl (back_edges s.number s.end ss from.2)
    where
      at : (a : Bool) → ends_by n p s ≡ a → (b : Bool) → begins_before n p s ≡ b
          → (ComesBy s.number s.end n p → edge_count n p (cut_from n p ss) ≤ edge_count s.number s.end ss)
          → edge_count n p (cond a (cut_from n p ss) (cond b (record s { start = p } ∷ ss) (s ∷ ss))) ≤ added k i s.number s.start + edge_count s.number s.end ss
      at true ends b begins more = omega (arith, more (ends_from s.number s.end n p ends))
      at false ends true begins more = omega (arith, added_at n p s.number (begins_from s.number s.start n p begins).0, added_least k i s.number s.start)
      at false ends false begins more = omega (arith, added_nearer k i n p s.number s.start h (lies_behind s.number s.start s.end n p ends begins))

module _ (u : ByteRange) (rest : List ByteRange) (filled : u.start < u.end) where
  abbrev behind : List ByteRange → List ByteRange
  behind ls = cut_from u.number u.end (cut_from u.number u.start ls)

  -- what lies before the range, the range, and what lies behind it
  laid_edges : (k i : ℕ) (ls : List ByteRange) → AreFrom k i ls → ComesBy k i u.number u.start
      → edge_count k i (cut_below u.number u.start ls ++ u ∷ rest) + edge_count u.number u.end (behind ls) ≤ edge_count k i ls + edge_count k i (u ∷ rest)
  unfolding cut_below cut_from edge_count
  laid_edges k i [] from h = omega arith
  laid_edges k i (s ∷ ss) from h = at (ends_by u.number u.start s) refl (begins_before u.number u.start s) refl (laid_edges s.number s.end ss from.2)
    where
      filled_first : s.start < s.end
      filled_first = from.1

      at : (a : Bool) → ends_by u.number u.start s ≡ a → (b : Bool) → begins_before u.number u.start s ≡ b
          → (ComesBy s.number s.end u.number u.start → edge_count s.number s.end (cut_below u.number u.start ss ++ u ∷ rest) + edge_count u.number u.end (behind ss) ≤ edge_count s.number s.end ss + edge_count s.number s.end (u ∷ rest))
          → edge_count k i (cond a (s ∷ cut_below u.number u.start ss) (cond b (record s { end = u.start } ∷ []) []) ++ u ∷ rest)
          + edge_count u.number u.end (cut_from u.number u.end (cond a (cut_from u.number u.start ss) (cond b (record s { start = u.start } ∷ ss) (s ∷ ss))))
          ≤ added k i s.number s.start + edge_count s.number s.end ss + (added k i u.number u.start + edge_count u.number u.end rest)
      at true ends b begins more =
          let by = ends_from s.number s.end u.number u.start ends in
          let near : ComesBy k i s.number s.end = let first = from.0 in grind arith in
          omega (arith, more by, added_nearer k i s.number s.end u.number u.start near by)
      at false ends true begins more =
          let parts = begins_from s.number s.start u.number u.start begins in
          let past = goes_past s.number s.end u.number u.start ends parts.0 in
          let same = parts.0 in
          let low = parts.1 in
          let first = from.0 in
          let far : (k < u.number) ⊎ ((k ≡ u.number) × (i < u.start)) = grind arith in
          let reached : ComesBy s.number u.start u.number u.end = inr (same, omega arith) in
          let here : u.start ≤ u.start = omega arith in
          omega (arith, added_at s.number u.start u.number (sym same), added_at s.number u.start s.number refl, added_behind k i u.number u.start far, back_edges u.number u.end s.number u.start (record s { start = u.start } ∷ ss) (inr (refl, here), past, from.2) reached)
      at false ends false begins more =
          let reached : ComesBy k i u.number u.end = grind arith in
          omega (arith, back_edges u.number u.end k i (s ∷ ss) from reached)

pub merged_edges : (us ls : List ByteRange) (n p : ℕ) → AreFrom n p ls → AreFrom n p us → edge_count n p (merged ls us) ≤ edge_count n p ls + edge_count n p us
unfolding merged edge_count
merged_edges [] ls n p lower upper = omega arith
merged_edges (u ∷ us) ls n p lower upper =
    let rest = cut_from u.number u.end (cut_from u.number u.start ls) in
    let from = cut_from_from u.number u.end u.number u.start (cut_from u.number u.start ls) (cut_from_from u.number u.start n p ls lower) in
    omega (arith, laid_edges u (merged rest us) upper.1 n p ls lower upper.0, merged_edges us rest u.number u.end from upper.2)

pub few_by_edges : (n p : ℕ) (ss : List ByteRange) → length ss ≤ edge_count n p ss
unfolding edge_count
few_by_edges n p [] = omega arith
few_by_edges n p (s ∷ ss) = omega (arith, added_least n p s.number s.start, few_by_edges s.number s.end ss)

-- ---- one range, and halves

pub none_are_few : (ss : List ByteRange) (count : ℕ) → ss ≡ [] → edge_count 0 0 ss ≤ count
unfolding edge_count
none_are_few ss count is = omega (arith, ap (edge_count 0 0) is)

pub one_is_few : (s : ByteRange) (ss : List ByteRange) → ss ≡ s ∷ [] → s.start < s.end → edge_count 0 0 ss ≤ 2 * filled_count (s ∷ [])
unfolding edge_count
one_is_few s ss is filled =
    let counted = ap (λ b. 0 + cond b 1 0) (lt-ltb s.start s.end filled) in
    omega (arith, ap (edge_count 0 0) is, added_few (eqb s.number 0 && eqb s.start 0), counted)

count_append : {X : Type 0} (test : X → Bool) (xs ys : List X) → count_by test (xs ++ ys) ≡ count_by test xs + count_by test ys
count_append test xs ys = sum_by-append (λ x. cond (test x) 1 0) xs ys

module _ (all earlier later out : List ByteRange) (middle : ℕ) (is : out ≡ merged earlier later) (first : AreFrom 0 0 earlier) (second : AreFrom 0 0 later) where
  pub halves_are_few : edge_count 0 0 earlier ≤ 2 * filled_count (take middle all) → edge_count 0 0 later ≤ 2 * filled_count (drop middle all) → edge_count 0 0 out ≤ 2 * filled_count all
  halves_are_few few_early few_late =
      let counts = sym (count_append (λ (s : ByteRange). ltb s.start s.end) (take middle all) (drop middle all)) ∙ ap filled_count (take-append-drop middle all) in
      omega (arith, ap (edge_count 0 0) is, merged_edges later earlier 0 0 first second, few_early, few_late, counts)

-- ---- ranges of a log

pub as_many_pieces : (ss : List ByteRange) → length (pieces_made ss) ≡ length ss
as_many_pieces [] = refl
as_many_pieces (s ∷ ss) = omega (arith, as_many_pieces ss)

growths_counted : (sizes : List FileSize) → filled_count (growths sizes) ≡ grown_count sizes
growths_counted [] = refl
growths_counted (s ∷ ss) = at (ltb s.before s.after) refl (growths_counted ss) ∙ sym (sum_by-cons (λ (s : FileSize). cond (ltb s.before s.after) 1 0) s ss)
  where
    at : (b : Bool) → ltb s.before s.after ≡ b → filled_count (growths ss) ≡ grown_count ss → filled_count (cond b (growth_of s ∷ growths ss) (growths ss)) ≡ cond b 1 0 + grown_count ss
    at true e rest = sum_by-cons (λ (s : ByteRange). cond (ltb s.start s.end) 1 0) (growth_of s) (growths ss) ∙ (λ i. cond (e i) 1 0 + rest i)
    at false e rest = omega (arith, rest)

few_put : (o : Option ByteRange) (ranges : List ByteRange) → length (put_before o ranges) ≤ length ranges + 1
few_put None ranges = omega arith
few_put (Some range) ranges = omega arith

few_made : (ends : ℕ → ℕ) (index : ℕ) (reaches : List Reach) → length (made ends index reaches) ≤ length reaches
few_made ends index [] = omega arith
few_made ends index (reach ∷ reaches) = omega (arith, few_made ends (index + 1) reaches, few_put (range_of ends index reach) (made ends (index + 1) reaches))

pub few_in_log : (sizes : List FileSize) (ends : ℕ → ℕ) (reaches : List Reach) → filled_count (growths sizes ++ made ends 0 reaches) ≤ grown_count sizes + length reaches
few_in_log sizes ends reaches =
    let ranges = made ends 0 reaches in
    omega (arith, count_append (λ (s : ByteRange). ltb s.start s.end) (growths sizes) ranges, growths_counted sizes, count_by-le-length (λ (s : ByteRange). ltb s.start s.end) ranges, few_made ends 0 reaches)
