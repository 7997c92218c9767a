-- What the values of a page have at a number.
use Rattle.std.proofs.Common.{◌≡◌, ◌==◌, ◌<◌, ◌≤◌, ◌-◌, ◌*◌, ℕ, zero, suc, nat_lt, ◌+◌, Bool, true, false, cond, List, [], ◌∷◌, length, get_or, Option, Some, None, refl, sym, ap, ◌∙◌, arith}
use Rattle.std.proofs.Math.ListN.{set}
use Rattle.std.proofs.lemmas.Bool.{eqb-true, eq-eqb, ltb-true, ltb-false}
use Rattle.std.specs.Option.{is_some}
use Rattle.kfs_maps.specs.Pages.Edits.{page_of}
use Rattle.std.specs.Ordering.{nat_cmp, eq_by_cmp}
use Rattle.std.specs.Cmp.{unsigned_tied}
use Rattle.kfs_model.specs.Table.{Table, numbers, get, empty, changed}
use Rattle.kfs_model.proofs.TableLaws.{same_table, get-changed}
use Rattle.kfs_maps.specs.Pages.Values.{numbered}

pub by_less : {P : Type 0} (a b : ℕ) → (a < b → P) → (b ≤ a → P) → P
by_less {P} a b less not_less = at (nat_lt a b) refl
  where
    at : (test : Bool) → nat_lt a b ≡ test → P
    at true e = less (ltb-true a b e)
    at false e = not_less (ltb-false a b e)

eqb-other : (a b : ℕ) → (a ≡ b → ⊥) → (a == b) ≡ false
eqb-other a b other = at (a == b) refl
  where
    at : (test : Bool) → (a == b) ≡ test → test ≡ false
    at true same = absurd (other (eqb-true a b same))
    at false same = refl

eqb-both : (a b c d : ℕ) → (a ≡ b → c ≡ d) → (c ≡ d → a ≡ b) → (a == b) ≡ (c == d)
eqb-both a b c d there back = at (a == b) refl
  where
    at : (test : Bool) → (a == b) ≡ test → test ≡ (c == d)
    at true same = sym (eq-eqb c d (there (eqb-true a b same)))
    at false same = sym (eqb-other c d (λ e. differ (sym (eq-eqb a b (back e)) ∙ same)))
      where
        differ : true ≡ false → ⊥
        differ e = cc

module _ {V : Type 0} where
  at_same : (b : Bool) (v rest : Option V) → b ≡ true → cond b v rest ≡ v
  at_same true v rest same = refl
  at_same false v rest same = cc

  at_other : (b : Bool) (v rest : Option V) → b ≡ false → cond b v rest ≡ rest
  at_other true v rest same = cc
  at_other false v rest same = refl

  pub get-changed_same : (t : Table numbers V) (k : ℕ) (w : Option V) (q : ℕ) → q ≡ k → get (changed t k w) q ≡ w
  get-changed_same t k w q same = get-changed t k w q ∙ at_same (eq_by_cmp nat_cmp q k) w (get t q) (unsigned_tied q k ∙ eq-eqb q k same)

  pub get-changed_other : (t : Table numbers V) (k : ℕ) (w : Option V) (q : ℕ) → (q ≡ k → ⊥) → get (changed t k w) q ≡ get t q
  get-changed_other t k w q other = get-changed t k w q ∙ at_other (eq_by_cmp nat_cmp q k) w (get t q) (unsigned_tied q k ∙ eqb-other q k other)

  pub numbered-before : (first : ℕ) (values : List (Option V)) (q : ℕ) → q < first → get (numbered first values) q ≡ None
  unfolding numbered get
  numbered-before first [] q before = refl
  numbered-before first (value ∷ values) q before =
      get-changed_other (numbered (first + 1) values) first value q (λ same. omega (arith, before, same)) ∙ numbered-before (first + 1) values q (omega (arith, before))

  pub numbered-at : (first : ℕ) (values : List (Option V)) (k q : ℕ) → q ≡ first + k → get (numbered first values) q ≡ get_or values k None
  unfolding numbered get
  numbered-at first [] k q at = refl
  numbered-at first (value ∷ values) zero q at = get-changed_same (numbered (first + 1) values) first value q (omega (arith, at))
  numbered-at first (value ∷ values) (suc k) q at =
      get-changed_other (numbered (first + 1) values) first value q (λ same. omega (arith, at, same)) ∙ numbered-at (first + 1) values k q (omega (arith, at))

  pub get_or-behind : (values : List (Option V)) (k : ℕ) → length values ≤ k → get_or values k None ≡ None
  get_or-behind [] k behind = refl
  get_or-behind (value ∷ values) zero behind = absurd (omega (arith, behind))
  get_or-behind (value ∷ values) (suc k) behind = get_or-behind values k (omega (arith, behind))

  pub numbered-behind : (first : ℕ) (values : List (Option V)) (q : ℕ) → first + length values ≤ q → get (numbered first values) q ≡ None
  numbered-behind first values q behind = numbered-at first values (q - first) q (omega (arith, behind)) ∙ get_or-behind values (q - first) (omega (arith, behind))

  twice : (a b : Bool) (v w rest : Option V) → (a ≡ true → b ≡ true → ⊥) → cond a v (cond b w rest) ≡ cond b w (cond a v rest)
  twice true true v w rest apart = absurd (apart refl refl)
  twice true false v w rest apart = refl
  twice false b v w rest apart = refl

  again : (a : Bool) (v w rest : Option V) → cond a v rest ≡ cond a v (cond a w rest)
  again true v w rest = refl
  again false v w rest = refl

  get-numbered-set : (first : ℕ) (values : List (Option V)) (k : ℕ) (v : Option V) (q : ℕ) → k < length values → get (numbered first (set values k v)) q ≡ cond (q == first + k) v (get (numbered first values) q)
  unfolding numbered
  get-numbered-set first [] k v q within = absurd (omega (arith, within))
  get-numbered-set first (value ∷ values) zero v q within =
      get-changed (numbered (first + 1) values) first v q
      ∙ again (eq_by_cmp nat_cmp q first) v value (get (numbered (first + 1) values) q)
      ∙ ap (λ b. cond b v (cond (eq_by_cmp nat_cmp q first) value (get (numbered (first + 1) values) q))) (unsigned_tied q first ∙ eqb-both q first q (first + 0) (λ e. omega (arith, e)) (λ e. omega (arith, e)))
      ∙ ap (cond (q == first + 0) v) (sym (get-changed (numbered (first + 1) values) first value q))
  get-numbered-set first (value ∷ values) (suc k) v q within =
      get-changed (numbered (first + 1) (set values k v)) first value q
      ∙ ap (cond (eq_by_cmp nat_cmp q first) value) (get-numbered-set (first + 1) values k v q (omega (arith, within)))
      ∙ twice (eq_by_cmp nat_cmp q first) (q == first + 1 + k) value v (get (numbered (first + 1) values) q) (λ a b. omega (arith, eqb-true q first (sym (unsigned_tied q first) ∙ a), eqb-true q (first + 1 + k) b))
      ∙ ap (λ b. cond b v (cond (eq_by_cmp nat_cmp q first) value (get (numbered (first + 1) values) q))) (eqb-both q (first + 1 + k) q (first + suc k) (λ e. omega (arith, e)) (λ e. omega (arith, e)))
      ∙ ap (cond (q == first + suc k) v) (sym (get-changed (numbered (first + 1) values) first value q))

  pub numbered-set : (first : ℕ) (values : List (Option V)) (k : ℕ) (v : Option V) (number : ℕ) → number ≡ first + k → k < length values → numbered first (set values k v) ≡ changed (numbered first values) number v
  numbered-set first values k v number at within =
      same_table _ _ (λ q.
      get-numbered-set first values k v q within ∙ ap (λ b. cond b v (get (numbered first values) q)) (eqb-both q (first + k) q number (λ e. omega (arith, e, at)) (λ e. omega (arith, e, at)) ∙ sym (unsigned_tied q number)) ∙ sym (get-changed (numbered first values) number v q))

  pub numbered-none : (first : ℕ) (values : List (Option V)) → ((k : ℕ) → k < length values → get_or values k None ≡ None) → numbered first values ≡ empty
  unfolding get
  numbered-none first values none = same_table _ _ at
    where
      inside : (k : ℕ) → get_or values k None ≡ None
      inside k = by_less k (length values) (none k) (get_or-behind values k)

      at : (q : ℕ) → get (numbered first values) q ≡ get {R = numbers} empty q
      at q = by_less q first (numbered-before first values q) (λ behind. numbered-at first values (q - first) q (omega (arith, behind)) ∙ inside (q - first))

  pub some_is_not_none : (o : Option V) → o ≡ None → is_some o ≡ true → ⊥
  some_is_not_none None none some = cc
  some_is_not_none (Some v) none some = cc

  -- a page has nothing at the numbers of other pages
  pub numbered-own : (index : ℕ) (values : List (Option V)) (n : ℕ) → length values ≡ 64 → (page_of n ≡ index → ⊥) → get (numbered (64 * index + 1) values) n ≡ None
  unfolding page_of
  numbered-own index values n len other =
      by_less n (64 * index + 1) (numbered-before (64 * index + 1) values n) (λ from. numbered-behind (64 * index + 1) values n (omega (arith, from, len, other)))
