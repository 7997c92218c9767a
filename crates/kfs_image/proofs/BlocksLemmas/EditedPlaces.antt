-- The places that edits of a placement leave and enter are those that blocks leave and enter.
use Rattle.std.proofs.Common.{◌≡◌, ℕ, suc, ◌+◌, ◌<◌, ◌≤◌, ◌||◌, ◌⊎◌, inl, inr, ⊎_elim, Bool, true, false, cond, List, [], ◌∷◌, ◌++◌, length, get_or, drop, append_assoc, append-nil, Option, Some, None, refl, sym, ap, subst, ◌∙◌, arith}
use Rattle.std.specs.declared.cmp.Ordering.{Ordering}
use Rattle.std.specs.declared.cmp.Ordering.TheVariants.{Less, Equal, Greater}
use Rattle.std.specs.Ordering.{is_eq}
use Rattle.std.specs.Cmp.{tied_itself}
use Rattle.std.proofs.lemmas.Bool.{both_ways, cases_Bool, or_cases, or_left}
use Rattle.std.proofs.lemmas.List.{drop_all}
use Rattle.kfs_model.specs.Table.{numbers, pairs, get}
use Rattle.kfs_model.specs.Placement.{TierSizes, Place, Placement, IsLaid}
use Rattle.kfs_maps.specs.Chunks.Edits.{edited, KeysAscend}
use Rattle.kfs_maps.specs.Chunks.Tables.{table_after}
use Rattle.kfs_maps.proofs.ChunksLemmas.Tables.{get-table_after}
use Rattle.kfs_image.specs.Tier.Tiers.{is_place, is_among, PlacesAreDistinct}
use Rattle.kfs_image.specs.Tier.Unused.{IsLeft, AreMoved}
use Rattle.kfs_image.proofs.TierLemmas.MovedPlaces.{is_place-is, is_place-same, among_at}
use Rattle.kfs_image.proofs.TierLemmas.TierLists.{rest_at}
use Rattle.kfs_image.specs.Blocks.Moves.{BlockEdit, left_by, left_in, given_by, taken_by}

abbrev cmp : ℕ × ℕ → ℕ × ℕ → Ordering
cmp = (pairs numbers numbers).compare

-- ---- one place that is left, and others

pub left_from : (was is : Option Place) (p : Place) → is_among (left_by was is) p ≡ true → (was ≡ Some p) × (is ≡ Some p → ⊥)
left_from None is p among = cc
left_from (Some a) None p among = ⊎_elim (λ here. (ap Some (is_place-is a p here), λ e. cc)) (λ later. cc) (or_cases (is_place a p) false among)
left_from (Some a) (Some b) p among = at (is_place a b) refl among
  where
    at : (t : Bool) → is_place a b ≡ t → is_among (cond t [] (a ∷ [])) p ≡ true → (◌≡◌ {A = Option Place} (Some a) (Some p)) × (◌≡◌ {A = Option Place} (Some b) (Some p) → ⊥)
    at true same among = cc
    at false differs among =
        let here : is_place a p ≡ true = ⊎_elim (λ t. t) (λ later. cc) (or_cases (is_place a p) false among) in
        (ap Some (is_place-is a p here), λ e. both_ways (is_place a b) differs (is_place-same a b (is_place-is a p here ∙ sym (some_is b p e))))
      where
        some_is : (x y : Place) → ◌≡◌ {A = Option Place} (Some x) (Some y) → x ≡ y
        some_is x y e = cc

pub not_left : (was is : Option Place) (p : Place) → is_among (left_by was is) p ≡ false → was ≡ Some p → is ≡ Some p
not_left None is p none there = cc
not_left (Some a) None p none there =
    let same : a ≡ p = cc in
    absurd (both_ways (is_place a p || false) none (or_left (is_place a p) false (is_place-same a p same)))
not_left (Some a) (Some b) p none there = at (is_place a b) refl none
  where
    same : a ≡ p
    same = cc

    at : (t : Bool) → is_place a b ≡ t → is_among (cond t [] (a ∷ [])) p ≡ false → ◌≡◌ {A = Option Place} (Some b) (Some p)
    at true alike none = ap Some (sym (is_place-is a b alike) ∙ same)
    at false differs none = absurd (both_ways (is_place a p || false) none (or_left (is_place a p) false (is_place-same a p same)))

one_more : (was is : Option Place) (rest : List Place) (p : Place) → is_among (left_by was is ++ rest) p ≡ (is_among (left_by was is) p || is_among rest p)
one_more None is rest p = refl
one_more (Some a) None rest p = or_none (is_place a p)
  where
    or_none : (t : Bool) → (t || is_among rest p) ≡ ((t || false) || is_among rest p)
    or_none true = refl
    or_none false = refl
one_more (Some a) (Some b) rest p = at (is_place a b)
  where
    or_none : (t : Bool) → (t || is_among rest p) ≡ ((t || false) || is_among rest p)
    or_none true = refl
    or_none false = refl

    at : (t : Bool) → is_among (cond t [] (a ∷ []) ++ rest) p ≡ (is_among (cond t [] (a ∷ [])) p || is_among rest p)
    at true = refl
    at false = or_none (is_place a p)

distinct_more : (was is : Option Place) (rest : List Place) → ((p : Place) → was ≡ Some p → is_among rest p ≡ false) → PlacesAreDistinct rest → PlacesAreDistinct (left_by was is ++ rest)
distinct_more None is rest none once = once
distinct_more (Some a) None rest none once = (none a refl, once)
distinct_more (Some a) (Some b) rest none once = at (is_place a b)
  where
    at : (t : Bool) → PlacesAreDistinct (cond t [] (a ∷ []) ++ rest)
    at true = once
    at false = (none a refl, once)

-- ---- the edits

-- the edit is one of these
abbrev Has : List BlockEdit → BlockEdit → Type 0
Has [] e = ⊥
Has (x ∷ xs) e = (x ≡ e) ⊎ Has xs e

has_at : (es : List BlockEdit) (e : BlockEdit) → Has es e → (k : ℕ) × (k < length es) × (get_or es k e ≡ e)
has_at [] e has = absurd has
has_at (x ∷ xs) e has = ⊎_elim (λ here. (0, omega arith, here)) (λ later. let (k, below, at) = has_at xs e later in (suc k, omega (arith, below), at)) has

ascend_rest : (e : BlockEdit) (es : List BlockEdit) → KeysAscend cmp (e ∷ es) → KeysAscend cmp es
ascend_rest e es ascend i j d less below = ascend (suc i) (suc j) d (omega (arith, less)) (omega (arith, below))

-- the key of the first edit is not that of a later one
first_key : (e x : BlockEdit) (es : List BlockEdit) → KeysAscend cmp (e ∷ es) → Has es x → x.key ≡ e.key → ⊥
first_key e x es ascend has same =
    let (k, below, at) = has_at es x has in
    let less : cmp e.key x.key ≡ Less = ap (λ (y : BlockEdit). cmp e.key y.key) (sym at) ∙ ascend 0 (suc k) x (omega arith) (omega (arith, below)) in
    let tie : cmp e.key x.key ≡ Equal = ap (cmp e.key) same ∙ tied_itself (pairs numbers numbers).total e.key in
    never (sym less ∙ tie)
  where
    never : Less ≡ Equal → ⊥
    never e = cc

-- an edit is of this key, or it keeps what it has
found_or_same : (es : List BlockEdit) (q : ℕ × ℕ) (v : Option Place) → ((e : BlockEdit) × Has es e × (e.key ≡ q)) ⊎ (edited cmp es q v ≡ v)
found_or_same [] q v = inr refl
found_or_same (e ∷ es) q v = at (found_or_same es q (cond (is_eq (cmp q e.key)) e.value v)) (cmp q e.key) refl
  where
    later : ((x : BlockEdit) × Has es x × (x.key ≡ q)) ⊎ (edited cmp es q (cond (is_eq (cmp q e.key)) e.value v) ≡ cond (is_eq (cmp q e.key)) e.value v) → cond (is_eq (cmp q e.key)) e.value v ≡ v
        → ((x : BlockEdit) × Has (e ∷ es) x × (x.key ≡ q)) ⊎ (edited cmp es q (cond (is_eq (cmp q e.key)) e.value v) ≡ v)
    later rest same = ⊎_elim (λ found. inl (found.0, inr found.1, found.2)) (λ kept. inr (kept ∙ same)) rest

    at : ((x : BlockEdit) × Has es x × (x.key ≡ q)) ⊎ (edited cmp es q (cond (is_eq (cmp q e.key)) e.value v) ≡ cond (is_eq (cmp q e.key)) e.value v) → (o : Ordering) → cmp q e.key ≡ o
        → ((x : BlockEdit) × Has (e ∷ es) x × (x.key ≡ q)) ⊎ (edited cmp es q (cond (is_eq (cmp q e.key)) e.value v) ≡ v)
    at rest Less is = later rest (ap (λ r. cond (is_eq r) e.value v) is)
    at rest Equal is = inl (e, inl refl, sym ((pairs numbers numbers).exact q e.key is))
    at rest Greater is = later rest (ap (λ r. cond (is_eq r) e.value v) is)

-- a key comes to have what its edit says
edited_here : (es : List BlockEdit) (e : BlockEdit) (v : Option Place) → KeysAscend cmp es → Has es e → edited cmp es e.key v ≡ e.value
edited_here [] e v ascend has = absurd has
edited_here (x ∷ xs) e v ascend has =
    ⊎_elim
    (λ here. subst (λ y. edited cmp (x ∷ xs) y.key v ≡ y.value) here (first v))
    (λ later. edited_here xs e (cond (is_eq (cmp e.key x.key)) x.value v) (ascend_rest x xs ascend) later)
    has
  where
    first : (w : Option Place) → edited cmp (x ∷ xs) x.key w ≡ x.value
    first w =
        ap (λ r. edited cmp xs x.key (cond (is_eq r) x.value w)) (tied_itself (pairs numbers numbers).total x.key)
        ∙ ⊎_elim (λ found. absurd (first_key x found.0 xs ascend found.1 found.2)) (λ kept. kept) (found_or_same xs x.key x.value)

-- ---- the places that they leave

module _ (was is : BlockEdit → Option Place) where
  left_has : (es : List BlockEdit) (p : Place) → is_among (left_in was is es) p ≡ true → (e : BlockEdit) × Has es e × (was e ≡ Some p) × (is e ≡ Some p → ⊥)
  unfolding left_in
  left_has [] p among = cc
  left_has (e ∷ es) p among =
      ⊎_elim
      (λ here. let (from, released) = left_from (was e) (is e) p here in (e, inl refl, from, released))
      (λ later. let (x, has, from, released) = left_has es p later in (x, inr has, from, released))
      (or_cases (is_among (left_by (was e) (is e)) p) (is_among (left_in was is es) p) (sym (one_more (was e) (is e) (left_in was is es) p) ∙ among))

  has_left : (es : List BlockEdit) (e : BlockEdit) (p : Place) → is_among (left_in was is es) p ≡ false → Has es e → was e ≡ Some p → is e ≡ Some p
  unfolding left_in
  has_left [] e p none has there = absurd has
  has_left (x ∷ xs) e p none has there =
      let (first, rest) = neither (is_among (left_by (was x) (is x)) p) (is_among (left_in was is xs) p) (sym (one_more (was x) (is x) (left_in was is xs) p) ∙ none) in
      ⊎_elim (λ here. subst (λ y. is y ≡ Some p) here (not_left (was x) (is x) p first (ap was here ∙ there))) (λ later. has_left xs e p rest later there) has
    where
      neither : (a b : Bool) → (a || b) ≡ false → (a ≡ false) × (b ≡ false)
      neither true b e = cc
      neither false b e = (refl, e)

  left_once : (es : List BlockEdit) → KeysAscend cmp es → ((e x : BlockEdit) (p : Place) → Has es e → Has es x → was e ≡ Some p → was x ≡ Some p → x.key ≡ e.key) → PlacesAreDistinct (left_in was is es)
  unfolding left_in
  left_once [] ascend apart = tt
  left_once (e ∷ es) ascend apart =
      distinct_more (was e) (is e) (left_in was is es)
      (λ p there.
      ⊎_elim
      (λ among. let (x, has, from, released) = left_has es p among in absurd (first_key e x es ascend has (apart e x p (inl refl) (inr has) there from)))
      (λ none. none)
      (cases_Bool (is_among (left_in was is es) p)))
      (left_once es (ascend_rest e es ascend) (λ x y p has also from too. apart x y p (inr has) (inr also) from too))

-- ---- the places that are collected, edit by edit

module _ (was is : BlockEdit → Option Place) (es : List BlockEdit) (i : ℕ) where
  pub left_step : (e : BlockEdit) (w s : Option Place) (places more all : List Place) → i < length es → e ≡ get_or es i e → w ≡ was e → s ≡ is e → more ≡ places ++ left_by w s → places ++ left_in was is (drop i es) ≡ all
      → more ++ left_in was is (drop (i + 1) es) ≡ all
  unfolding left_in
  left_step e w s places more all below here there now added so_far =
      ap (λ ps. ps ++ left_in was is (drop (i + 1) es)) (added ∙ ap (λ o. places ++ left_by o s) there ∙ ap (λ o. places ++ left_by (was e) o) now)
      ∙ append_assoc places (left_by (was e) (is e)) (left_in was is (drop (i + 1) es))
      ∙ ap (λ rest. places ++ left_in was is rest) (sym (rest_at es i e below here))
      ∙ so_far

  pub left_end : (places all : List Place) → length es ≤ i → places ++ left_in was is (drop i es) ≡ all → places ≡ all
  unfolding left_in
  left_end places all past so_far = sym (ap (λ rest. places ++ left_in was is rest) (drop_all i es past) ∙ append-nil places) ∙ so_far

module _ (sizes : TierSizes) (old : Placement) (es : List BlockEdit) (ascend : KeysAscend cmp es) (before : IsLaid sizes old) (after : IsLaid sizes (table_after old es)) where
  abbrev new : Placement
  new = table_after old es

  new_at : (e : BlockEdit) → Has es e → get new e.key ≡ e.value
  new_at e has = get-table_after old es e.key ∙ edited_here es e (get old e.key) ascend has

  -- a block that isn't edited stays where it was
  edit_or_stays : (block : ℕ × ℕ) → ((e : BlockEdit) × Has es e × (e.key ≡ block)) ⊎ (get new block ≡ get old block)
  edit_or_stays block = ⊎_elim (λ found. inl found) (λ kept. inr (get-table_after old es block ∙ kept)) (found_or_same es block (get old block))

  given_is : (p : Place) → is_among (given_by old es) p ≡ true → IsLeft old new p
  given_is p among =
      let (e, has, from, released) = left_has (λ e. get old e.key) (λ e. e.value) es p among in
      record { block = e.key; before = from; after = λ there. released (sym (new_at e has) ∙ there) }

  taken_is : (p : Place) → is_among (taken_by old es) p ≡ true → IsLeft new old p
  taken_is p among =
      let (e, has, from, released) = left_has (λ e. e.value) (λ e. get old e.key) es p among in
      record { block = e.key; before = new_at e has ∙ from; after = released }

  given_all : (p : Place) → IsLeft old new p → is_among (given_by old es) p ≡ true
  given_all p left =
      ⊎_elim (λ among. among) (λ none. absurd (left.after (stays none (edit_or_stays left.block)))) (cases_Bool (is_among (given_by old es) p))
    where
      stays : is_among (given_by old es) p ≡ false → ((e : BlockEdit) × Has es e × (e.key ≡ left.block)) ⊎ (get new left.block ≡ get old left.block) → get new left.block ≡ Some p
      stays none (inl (e, has, key)) = ap (get new) (sym key) ∙ new_at e has ∙ has_left (λ e. get old e.key) (λ e. e.value) es e p none has (ap (get old) key ∙ left.before)
      stays none (inr same) = same ∙ left.before

  taken_all : (p : Place) → IsLeft new old p → is_among (taken_by old es) p ≡ true
  taken_all p left =
      ⊎_elim (λ among. among) (λ none. absurd (left.after (was none (edit_or_stays left.block)))) (cases_Bool (is_among (taken_by old es) p))
    where
      was : is_among (taken_by old es) p ≡ false → ((e : BlockEdit) × Has es e × (e.key ≡ left.block)) ⊎ (get new left.block ≡ get old left.block) → get old left.block ≡ Some p
      was none (inl (e, has, key)) = ap (get old) (sym key) ∙ has_left (λ e. e.value) (λ e. get old e.key) es e p none has (sym (new_at e has) ∙ ap (get new) key ∙ left.before)
      was none (inr same) = sym same ∙ left.before

  pub are_moved : AreMoved old new (given_by old es) (taken_by old es)
  are_moved = record {
    each_left = λ k d inside. given_is _ (among_at (given_by old es) k d inside);
    all_left = given_all;
    given_once = left_once (λ e. get old e.key) (λ e. e.value) es ascend (λ e x p has also from too. before.apart x.key e.key p too from);
    each_entered = λ k d inside. taken_is _ (among_at (taken_by old es) k d inside);
    all_entered = taken_all;
    taken_once = left_once (λ e. e.value) (λ e. get old e.key) es ascend (λ e x p has also from too. after.apart x.key e.key p (new_at x also ∙ too) (new_at e has ∙ from));
  }
