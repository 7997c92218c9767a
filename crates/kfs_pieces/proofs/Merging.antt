-- One list of ranges laid over another stays in order, and says of each byte what the upper one says, or else the lower one.
use Rattle.std.proofs.Common.{◌≡◌, ℕ, ◌<◌, ◌≤◌, ◌⊎◌, inr, ⊎_elim, Bool, true, false, cond, ◌&&◌, ◌||◌, ltb, leb, eqb, List, [], ◌∷◌, ◌++◌, Some, None, refl, sym, ap, subst, ◌∙◌, arith}
use Rattle.std.proofs.lemmas.Bool.Decides.{nat_tests}
use Rattle.kfs_model.specs.Table.{option_or}
use Rattle.kfs_model.specs.Plan.{ComesBy}
use Rattle.kfs_pieces.proofs.PiecesFollowed.{comes_then, before_then, either_side, not_yet, no_more}
use Rattle.kfs_pieces.specs.declared.merge.ByteRange.{ByteRange}
use Rattle.kfs_pieces.specs.ByteRanges.{has_byte, origin_at, AreFrom, ends_by, begins_before, cut_below, cut_from, merged}

-- ---- over plain numbers

pub ends_from : (k e n p : ℕ) → (ltb k n || (eqb k n && leb e p)) ≡ true → (k < n) ⊎ ((k ≡ n) × (e ≤ p))
ends_from k e n p h = grind (arith, nat_tests)

pub begins_from : (k s n p : ℕ) → (eqb k n && ltb s p) ≡ true → (k ≡ n) × (s < p)
begins_from k s n p h = grind (arith, nat_tests)

pub goes_past : (k e n p : ℕ) → (ltb k n || (eqb k n && leb e p)) ≡ false → k ≡ n → p < e
goes_past k e n p h i = grind (arith, nat_tests)

pub lies_behind : (k s e n p : ℕ) → (ltb k n || (eqb k n && leb e p)) ≡ false → (eqb k n && ltb s p) ≡ false → (n < k) ⊎ ((n ≡ k) × (p ≤ s))
lies_behind k s e n p h i = grind (arith, nat_tests)

-- the front of a range has its bytes before the cut, the back those behind it
front_holds : (k s e n p m q : ℕ) → k ≡ n → p < e → (m < n) ⊎ ((m ≡ n) × (q < p)) → (eqb k m && leb s q && ltb q p) ≡ (eqb k m && leb s q && ltb q e)
front_holds k s e n p m q a b h = grind (arith, nat_tests)

back_holds : (k s e n p m q : ℕ) → k ≡ n → s < p → (n < m) ⊎ ((n ≡ m) × (p ≤ q)) → (eqb k m && leb p q && ltb q e) ≡ (eqb k m && leb s q && ltb q e)
back_holds k s e n p m q a b h = grind (arith, nat_tests)

past_end : (k s e m q : ℕ) → (k < m) ⊎ ((k ≡ m) × (s ≤ q)) → (eqb k m && leb s q && ltb q e) ≡ false → (k < m) ⊎ ((k ≡ m) × (e ≤ q))
past_end k s e m q h i = grind (arith, nat_tests)

-- ---- lists in order

from_weaker : (n p m q : ℕ) (ss : List ByteRange) → ComesBy n p m q → AreFrom m q ss → AreFrom n p ss
from_weaker n p m q [] h from = tt
from_weaker n p m q (s ∷ ss) h from = (comes_then n p m q s.number s.start h from.0, from.1, from.2)

module _ (m q : ℕ) where
  -- a byte before the first range is in none
  none_before : (n p : ℕ) (ss : List ByteRange) → (m < n) ⊎ ((m ≡ n) × (q < p)) → AreFrom n p ss → origin_at ss m q ≡ None
  none_before n p [] h from = refl
  none_before n p (s ∷ ss) h from =
      let here : (m < s.number) ⊎ ((m ≡ s.number) × (q < s.start)) = before_then m q n p s.number s.start h from.0 in
      let filled = from.1 in
      let behind : (m < s.number) ⊎ ((m ≡ s.number) × (q < s.end)) = grind arith in
      ap (λ b. cond b (Some s.origin) (origin_at ss m q)) (not_yet s.number s.start s.end m q here)
      ∙ none_before s.number s.end ss behind from.2

module _ (n p : ℕ) where
  cut_below_from : (m q : ℕ) (ls rest : List ByteRange) → AreFrom m q ls → ComesBy m q n p → AreFrom n p rest → AreFrom m q (cut_below n p ls ++ rest)
  unfolding cut_below
  cut_below_from m q [] rest from h behind = from_weaker m q n p rest h behind
  cut_below_from m q (s ∷ ss) rest from h behind = at (ends_by n p s) refl (begins_before n p s) refl (cut_below_from s.number s.end ss rest from.2)
    where
      at : (a : Bool) → ends_by n p s ≡ a → (b : Bool) → begins_before n p s ≡ b
          → (ComesBy s.number s.end n p → AreFrom n p rest → AreFrom s.number s.end (cut_below n p ss ++ rest))
          → AreFrom m q (cond a (s ∷ cut_below n p ss) (cond b (record s { end = p } ∷ []) []) ++ rest)
      at true ends b begins more = (from.0, from.1, more (ends_from s.number s.end n p ends) behind)
      at false ends true begins more =
          let parts = begins_from s.number s.start n p begins in
          (from.0, parts.1, subst (λ k. AreFrom k p rest) (sym parts.0) behind)
      at false ends false begins more = from_weaker m q n p rest h behind

  pub cut_from_from : (m q : ℕ) (ls : List ByteRange) → AreFrom m q ls → AreFrom n p (cut_from n p ls)
  unfolding cut_from
  cut_from_from m q [] from = tt
  cut_from_from m q (s ∷ ss) from = at (ends_by n p s) refl (begins_before n p s) refl (cut_from_from s.number s.end ss from.2)
    where
      at : (a : Bool) → ends_by n p s ≡ a → (b : Bool) → begins_before n p s ≡ b → AreFrom n p (cut_from n p ss) → AreFrom n p (cond a (cut_from n p ss) (cond b (record s { start = p } ∷ ss) (s ∷ ss)))
      at true ends b begins more = more
      at false ends true begins more =
          let parts = begins_from s.number s.start n p begins in
          (inr (sym parts.0, (let e : p ≤ p = omega arith in e)), goes_past s.number s.end n p ends parts.0, from.2)
      at false ends false begins more = (lies_behind s.number s.start s.end n p ends begins, from.1, from.2)

  module _ (m q : ℕ) where
    -- before the cut the front says what the list says
    front_says : (ls rest : List ByteRange) → (k i : ℕ) → AreFrom k i ls → AreFrom n p rest → (m < n) ⊎ ((m ≡ n) × (q < p)) → origin_at (cut_below n p ls ++ rest) m q ≡ origin_at ls m q
    unfolding cut_below
    front_says [] rest k i from behind h = none_before m q n p rest h behind
    front_says (s ∷ ss) rest k i from behind h = at (ends_by n p s) refl (begins_before n p s) refl (front_says ss rest s.number s.end from.2 behind h)
      where
        after : (b : Bool) → origin_at rest m q ≡ None → origin_at ss m q ≡ None → cond b (Some s.origin) (origin_at rest m q) ≡ cond b (Some s.origin) (origin_at ss m q)
        after b x y = ap (cond b (Some s.origin)) (x ∙ sym y)

        at : (a : Bool) → ends_by n p s ≡ a → (b : Bool) → begins_before n p s ≡ b → origin_at (cut_below n p ss ++ rest) m q ≡ origin_at ss m q
            → origin_at (cond a (s ∷ cut_below n p ss) (cond b (record s { end = p } ∷ []) []) ++ rest) m q ≡ origin_at (s ∷ ss) m q
        at true ends b begins more = ap (cond (has_byte m q s) (Some s.origin)) more
        at false ends true begins more =
            let parts = begins_from s.number s.start n p begins in
            let past = goes_past s.number s.end n p ends parts.0 in
            let number = parts.0 in
            let further : (m < s.number) ⊎ ((m ≡ s.number) × (q < s.end)) = grind arith in
            ap (λ b. cond b (Some s.origin) (origin_at rest m q)) (front_holds s.number s.start s.end n p m q parts.0 past h)
            ∙ after (has_byte m q s) (none_before m q n p rest h behind) (none_before m q s.number s.end ss further from.2)
        at false ends false begins more =
            none_before m q n p rest h behind
            ∙ sym (none_before m q n p (s ∷ ss) h (lies_behind s.number s.start s.end n p ends begins, from.1, from.2))

    -- from the cut on the back says what the list says
    back_says : (ls : List ByteRange) → ComesBy n p m q → origin_at (cut_from n p ls) m q ≡ origin_at ls m q
    unfolding cut_from
    back_says [] h = refl
    back_says (s ∷ ss) h = at (ends_by n p s) refl (begins_before n p s) refl (back_says ss h)
      where
        at : (a : Bool) → ends_by n p s ≡ a → (b : Bool) → begins_before n p s ≡ b → origin_at (cut_from n p ss) m q ≡ origin_at ss m q
            → origin_at (cond a (cut_from n p ss) (cond b (record s { start = p } ∷ ss) (s ∷ ss))) m q ≡ origin_at (s ∷ ss) m q
        at true ends b begins more = more ∙ sym (ap (λ b. cond b (Some s.origin) (origin_at ss m q)) (no_more s.number s.start s.end m q (comes_then s.number s.end n p m q (ends_from s.number s.end n p ends) h)))
        at false ends true begins more =
            let parts = begins_from s.number s.start n p begins in
            ap (λ b. cond b (Some s.origin) (origin_at ss m q)) (back_holds s.number s.start s.end n p m q parts.0 parts.1 h)
        at false ends false begins more = refl

    -- the front says nothing from the cut on
    front_ends : (ls rest : List ByteRange) → ComesBy n p m q → origin_at (cut_below n p ls ++ rest) m q ≡ origin_at rest m q
    unfolding cut_below
    front_ends [] rest h = refl
    front_ends (s ∷ ss) rest h = at (ends_by n p s) refl (begins_before n p s) refl (front_ends ss rest h)
      where
        at : (a : Bool) → ends_by n p s ≡ a → (b : Bool) → begins_before n p s ≡ b → origin_at (cut_below n p ss ++ rest) m q ≡ origin_at rest m q
            → origin_at (cond a (s ∷ cut_below n p ss) (cond b (record s { end = p } ∷ []) []) ++ rest) m q ≡ origin_at rest m q
        at true ends b begins more = ap (λ b. cond b (Some s.origin) (origin_at (cut_below n p ss ++ rest) m q)) (no_more s.number s.start s.end m q (comes_then s.number s.end n p m q (ends_from s.number s.end n p ends) h)) ∙ more
        at false ends true begins more =
            let parts = begins_from s.number s.start n p begins in
            ap (λ b. cond b (Some s.origin) (origin_at rest m q)) (no_more s.number s.start p m q (subst (λ j. ComesBy j p m q) (sym parts.0) h))
        at false ends false begins more = refl

-- ---- one list over another

pub merged_from : (us ls : List ByteRange) (n p : ℕ) → AreFrom n p ls → AreFrom n p us → AreFrom n p (merged ls us)
unfolding merged
merged_from [] ls n p lower upper = lower
merged_from (u ∷ us) ls n p lower upper =
    let first = cut_from_from u.number u.start n p ls lower in
    let rest = cut_from_from u.number u.end u.number u.start (cut_from u.number u.start ls) first in
    let more = merged_from us (cut_from u.number u.end (cut_from u.number u.start ls)) u.number u.end rest upper.2 in
    let same : u.start ≤ u.start = omega arith in
    cut_below_from u.number u.start n p ls (u ∷ merged (cut_from u.number u.end (cut_from u.number u.start ls)) us) lower upper.0 (inr (refl, same), upper.1, more)

module _ (u : ByteRange) (us ls : List ByteRange) (n p : ℕ) (lower : AreFrom n p ls) (upper : AreFrom n p (u ∷ us)) (m q : ℕ) where
  -- what lies behind the first range of the upper list
  abbrev rest : List ByteRange
  rest = cut_from u.number u.end (cut_from u.number u.start ls)

  rest_from : AreFrom u.number u.end rest
  rest_from = cut_from_from u.number u.end u.number u.start (cut_from u.number u.start ls) (cut_from_from u.number u.start n p ls lower)

  same : u.start ≤ u.start
  same = omega arith

  says_before : (m < u.number) ⊎ ((m ≡ u.number) × (q < u.start)) → origin_at (cut_below u.number u.start ls ++ u ∷ merged rest us) m q ≡ option_or (origin_at (u ∷ us) m q) (origin_at ls m q)
  says_before h =
      front_says u.number u.start m q ls (u ∷ merged rest us) n p lower (inr (refl, same), upper.1, merged_from us rest u.number u.end rest_from upper.2) h
      ∙ ap (λ o. option_or o (origin_at ls m q)) (sym (none_before m q u.number u.start (u ∷ us) h (inr (refl, same), upper.1, upper.2)))

  says_behind : origin_at (merged rest us) m q ≡ option_or (origin_at us m q) (origin_at rest m q) → ComesBy u.number u.start m q → origin_at (cut_below u.number u.start ls ++ u ∷ merged rest us) m q ≡ option_or (origin_at (u ∷ us) m q) (origin_at ls m q)
  says_behind more h = front_ends u.number u.start m q ls (u ∷ merged rest us) h ∙ at (has_byte m q u) refl
    where
      at : (b : Bool) → has_byte m q u ≡ b → cond b (Some u.origin) (origin_at (merged rest us) m q) ≡ option_or (cond b (Some u.origin) (origin_at us m q)) (origin_at ls m q)
      at true e = refl
      at false e =
          let past = past_end u.number u.start u.end m q h e in
          more ∙ ap (option_or (origin_at us m q)) (back_says u.number u.end m q (cut_from u.number u.start ls) past ∙ back_says u.number u.start m q ls h)

pub merged_says : (us ls : List ByteRange) (n p : ℕ) → AreFrom n p ls → AreFrom n p us → (m q : ℕ) → origin_at (merged ls us) m q ≡ option_or (origin_at us m q) (origin_at ls m q)
unfolding merged
merged_says [] ls n p lower upper m q = refl
merged_says (u ∷ us) ls n p lower upper m q =
    ⊎_elim (says_before u us ls n p lower upper m q)
    (says_behind u us ls n p lower upper m q (merged_says us (cut_from u.number u.end (cut_from u.number u.start ls)) u.number u.end (rest_from u us ls n p lower upper m q) upper.2 m q))
    (either_side m q u.number u.start)
