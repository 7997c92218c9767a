-- Ascending places as runs: a place is in one of them exactly where it is one of the places, and they stand apart.
use Rattle.std.proofs.Common.{◌≡◌, ℕ, zero, suc, ◌+◌, ◌<◌, ◌≤◌, ◌==◌, ◌&&◌, Bool, true, false, cond, List, [], ◌∷◌, filter, ◌⊎◌, inl, inr, ⊎_elim, refl, ap, ◌∙◌, arith, eqb-true, lt-ltb, ltb-true, le-leb, leb-true}
use Rattle.std.specs.Prelude.{nat_lt}
use Rattle.std.proofs.lemmas.Bool.{and_from, or_cases, or_left, or_right, eqb-false}
use Rattle.kfs_model.specs.Placement.{TierSizes, Placement, tier_size, is_free, numbers_from, below}
use Rattle.kfs_model.proofs.CleanIsAllowed.{left, right}
use Rattle.kfs_model.specs.Device.FreeRuns.{Run, is_in, is_in_one, joined, runs_of, free_runs, AreApart}
use Rattle.kfs_model.proofs.DeviceLemmas.Among.{Among}
use Rattle.kfs_model.proofs.DeviceLemmas.OnlyOne.{below_among, among_below}
use Rattle.kfs_model.proofs.DeviceLemmas.Truth.{same_truth}

-- ---- which places are in the runs

run_in : (run : Run) (place : ℕ) → run.first ≤ place → place < run.first + run.count → is_in run place ≡ true
run_in run place least less = and_from _ _ (le-leb run.first place least) (lt-ltb place (run.first + run.count) less)

run_has : (run : Run) (place : ℕ) → is_in run place ≡ true → (run.first ≤ place) × (place < run.first + run.count)
run_has run place is = (leb-true run.first place (left _ _ is), ltb-true place (run.first + run.count) (right _ _ is))

alone_has : (first place : ℕ) → is_in (record { first = first; count = 1 }) place ≡ true → place ≡ first
alone_has first place is = let (least, less) = run_has (record { first = first; count = 1 }) place is in omega arith

alone_in : (first place : ℕ) → place ≡ first → is_in (record { first = first; count = 1 }) place ≡ true
alone_in first place same = run_in (record { first = first; count = 1 }) place (omega arith) (omega arith)

-- a place joined to runs is in one of them, and so are those that were
joined_has : (first : ℕ) (runs : List Run) (place : ℕ) → is_in_one (joined first runs) place ≡ true → (place ≡ first) ⊎ (is_in_one runs place ≡ true)
joined_has first [] place any = ⊎_elim (λ here. inl (alone_has first place here)) (λ (none : false ≡ true). cc) (or_cases _ _ any)
joined_has first (run ∷ runs) place any = at (first + 1 == run.first) refl any
  where
    longer : first + 1 ≡ run.first → is_in (record { first = first; count = run.count + 1 }) place ≡ true → (place ≡ first) ⊎ (is_in_one (run ∷ runs) place ≡ true)
    longer next is =
        let (least, less) = run_has (record { first = first; count = run.count + 1 }) place is in
        ⊎_elim (λ same. inl same) (λ above. inr (or_left (is_in run place) (is_in_one runs place) (run_in run place (omega arith) (omega arith)))) (here_or_above least)
      where
        here_or_above : first ≤ place → (place ≡ first) ⊎ (first + 1 ≤ place)
        here_or_above least = grind arith

    at : (b : Bool) → (first + 1 == run.first) ≡ b → is_in_one (cond b (record { first = first; count = run.count + 1 } ∷ runs) (record { first = first; count = 1 } ∷ run ∷ runs)) place ≡ true
        → (place ≡ first) ⊎ (is_in_one (run ∷ runs) place ≡ true)
    at true next any = ⊎_elim (λ here. longer (eqb-true (first + 1) run.first next) here) (λ later. inr (or_right (is_in run place) (is_in_one runs place) later)) (or_cases _ _ any)
    at false apart any = ⊎_elim (λ here. inl (alone_has first place here)) (λ later. inr later) (or_cases _ _ any)

joined_in : (first : ℕ) (runs : List Run) (place : ℕ) → (place ≡ first) ⊎ (is_in_one runs place ≡ true) → is_in_one (joined first runs) place ≡ true
joined_in first [] place either = ⊎_elim (λ same. or_left _ _ (alone_in first place same)) (λ none. cc) either
joined_in first (run ∷ runs) place either = at (first + 1 == run.first) refl
  where
    longer : first + 1 ≡ run.first → (place ≡ first) ⊎ (is_in run place ≡ true) → is_in (record { first = first; count = run.count + 1 }) place ≡ true
    longer next here =
        ⊎_elim
        (λ same. run_in (record { first = first; count = run.count + 1 }) place (omega arith) (omega arith))
        (λ is. let (least, less) = run_has run place is in run_in (record { first = first; count = run.count + 1 }) place (omega arith) (omega arith))
        here

    at : (b : Bool) → (first + 1 == run.first) ≡ b → is_in_one (cond b (record { first = first; count = run.count + 1 } ∷ runs) (record { first = first; count = 1 } ∷ run ∷ runs)) place ≡ true
    at true next =
        let joins = eqb-true (first + 1) run.first next in
        ⊎_elim
        (λ same. or_left _ _ (longer joins (inl same)))
        (λ any. ⊎_elim (λ here. or_left _ _ (longer joins (inr here))) (λ later. or_right _ _ later) (or_cases _ _ any))
        either
    at false apart = ⊎_elim (λ same. or_left _ _ (alone_in first place same)) (λ any. or_right _ _ any) either

runs_have : (places : List ℕ) (place : ℕ) → is_in_one (runs_of places) place ≡ true → Among place places
unfolding runs_of
runs_have [] place any = cc
runs_have (p ∷ ps) place any = ⊎_elim (λ same. inl same) (λ later. inr (runs_have ps place later)) (joined_has p (runs_of ps) place any)

in_runs : (places : List ℕ) (place : ℕ) → Among place places → is_in_one (runs_of places) place ≡ true
unfolding runs_of
in_runs [] place among = absurd among
in_runs (p ∷ ps) place among = joined_in p (runs_of ps) place (⊎_elim (λ same. inl same) (λ later. inr (in_runs ps place later)) among)

-- ---- free places

module _ {X : Type 0} (test : X → Bool) where
  among_filter : (xs : List X) (x : X) → Among x xs → test x ≡ true → Among x (filter test xs)
  among_filter [] x among passes = absurd among
  among_filter (y ∷ ys) x among passes = at (test y) refl (λ later. among_filter ys x later passes) among
    where
      at : (b : Bool) → test y ≡ b → (Among x ys → Among x (filter test ys)) → Among x (y ∷ ys) → Among x (cond b (y ∷ filter test ys) (filter test ys))
      at true is rest among = ⊎_elim (λ here. inl here) (λ later. inr (rest later)) among
      at false is rest among = ⊎_elim (λ here. let fails : test x ≡ false = ap test here ∙ is in cc) rest among

  filter_among : (xs : List X) (x : X) → Among x (filter test xs) → Among x xs × (test x ≡ true)
  filter_among [] x among = absurd among
  filter_among (y ∷ ys) x among = at (test y) refl (filter_among ys x) among
    where
      at : (b : Bool) → test y ≡ b → (Among x (filter test ys) → Among x ys × (test x ≡ true)) → Among x (cond b (y ∷ filter test ys) (filter test ys)) → Among x (y ∷ ys) × (test x ≡ true)
      at true is rest among = ⊎_elim (λ here. (inl here, ap test here ∙ is)) (λ later. let (there, passes) = rest later in (inr there, passes)) among
      at false is rest among = let (there, passes) = rest among in (inr there, passes)

pub in_free_runs : (sizes : TierSizes) (placement : Placement) (tier place : ℕ)
    → is_in_one (free_runs sizes placement tier) place ≡ (nat_lt place (tier_size sizes tier) && is_free placement (record { tier = tier; place = place }))
in_free_runs sizes placement tier place =
    same_truth _ _
    (λ any.
    let (there, free) = filter_among free_there (below (tier_size sizes tier)) place (runs_have _ place any) in
    and_from _ _ (lt-ltb place (tier_size sizes tier) (among_below (tier_size sizes tier) place there)) free)
    (λ both. in_runs _ place (among_filter free_there (below (tier_size sizes tier)) place (below_among (tier_size sizes tier) place (ltb-true place (tier_size sizes tier) (left _ _ both))) (right _ _ both)))
  where
    free_there : ℕ → Bool
    free_there p = is_free placement (record { tier = tier; place = p })

-- ---- the runs stand apart

-- each of the numbers is above the one before it, and none is below the least
Rise : (least : ℕ) → List ℕ → Type 0
Rise least [] = Unit {0}
Rise least (place ∷ places) = (least ≤ place) × Rise (place + 1) places

rise_lower : (least other : ℕ) (places : List ℕ) → least ≤ other → Rise other places → Rise least places
unfolding Rise
rise_lower least other [] lower rise = tt
rise_lower least other (place ∷ places) lower rise = let above = rise.0 in (omega arith, rise.1)

rise_filtered : (test : ℕ → Bool) (first count : ℕ) → Rise first (filter test (numbers_from first count))
unfolding Rise
rise_filtered test first zero = tt
rise_filtered test first (suc count) = at (test first) (rise_filtered test (first + 1) count)
  where
    at : (b : Bool) → Rise (first + 1) (filter test (numbers_from (first + 1) count)) → Rise first (cond b (first ∷ filter test (numbers_from (first + 1) count)) (filter test (numbers_from (first + 1) count)))
    at true rest = (omega arith, rest)
    at false rest = rise_lower first (first + 1) _ (omega arith) rest

-- the first run begins no lower
Begin : (least : ℕ) → List Run → Type 0
Begin least [] = Unit {0}
Begin least (run ∷ runs) = least ≤ run.first

joined_apart : (first : ℕ) (runs : List Run) → AreApart runs → Begin (first + 1) runs → AreApart (joined first runs)
unfolding Begin
joined_apart first [] apart begin = omega arith
joined_apart first (run ∷ runs) apart begin = at (first + 1 == run.first) refl
  where
    longer : first + 1 ≡ run.first → (others : List Run) → AreApart (run ∷ others) → AreApart (record { first = first; count = run.count + 1 } ∷ others)
    longer next [] apart' = omega arith
    longer next (other ∷ others) apart' = let far = apart'.1 in (omega arith, omega arith, apart'.2)

    at : (b : Bool) → (first + 1 == run.first) ≡ b → AreApart (cond b (record { first = first; count = run.count + 1 } ∷ runs) (record { first = first; count = 1 } ∷ run ∷ runs))
    at true next = longer (eqb-true (first + 1) run.first next) runs apart
    at false is = (omega arith, gap (eqb-false (first + 1) run.first is), apart)
      where
        gap : (first + 1 ≡ run.first → ⊥) → first + 1 < run.first
        gap other = grind (arith, other)

joined_begin : (least first : ℕ) (runs : List Run) → least ≤ first → Begin least (joined first runs)
unfolding Begin
joined_begin least first [] lower = lower
joined_begin least first (run ∷ runs) lower = at (first + 1 == run.first)
  where
    at : (b : Bool) → Begin least (cond b (record { first = first; count = run.count + 1 } ∷ runs) (record { first = first; count = 1 } ∷ run ∷ runs))
    at true = lower
    at false = lower

runs_apart : (least : ℕ) (places : List ℕ) → Rise least places → AreApart (runs_of places) × Begin least (runs_of places)
unfolding runs_of Rise Begin
runs_apart least [] rise = (tt, tt)
runs_apart least (place ∷ places) rise =
    let (apart, begin) = runs_apart (place + 1) places rise.1 in
    (joined_apart place (runs_of places) apart begin, joined_begin least place (runs_of places) rise.0)

pub free_runs_apart : (sizes : TierSizes) (placement : Placement) (tier : ℕ) → AreApart (free_runs sizes placement tier)
free_runs_apart sizes placement tier = (runs_apart 0 _ (rise_filtered (λ place. is_free placement (record { tier = tier; place = place })) 0 (tier_size sizes tier))).0
