-- An extent shares a place with another one exactly where one of its places is counted twice.
use Rattle.std.proofs.Common.{◌≡◌, ℕ, ◌+◌, ◌<◌, ◌≤◌, ◌==◌, ◌&&◌, nat_le, nat_lt, Bool, true, false, cond, List, [], ◌∷◌, length, map, take, drop, get_or, count_by, Option, Some, None, inl, inr, ⊎_elim, refl, sym, ap, subst, ◌∙◌, arith, eq-eqb, eqb-true, leb-true, le-leb, ltb-true, lt-ltb, zero-add}
use Rattle.std.specs.List.{AllByRecursion}
use Rattle.std.specs.BTreeMap.{BTreeMap}
use Rattle.std.proofs.lemmas.Bool.{and_from, and_parts, cases_lt, false_from_ne_true}
use Rattle.kfs_model.proofs.Counts.{tally, is_tally}
use Rattle.std.proofs.lemmas.List.{drop_more, take-append-drop}
use Rattle.kfs_model.specs.Header.{Header}
use Rattle.kfs_model.specs.Table.{Table, numbers, pairs, get}
use Rattle.kfs_model.specs.Placement.{TierSizes, tier_size}
use Rattle.kfs_model.proofs.CleanIsAllowed.{left, right}
use Rattle.kfs_model.specs.Device.RawImage.{ExtentRow, RawImage, heads_of}
use Rattle.kfs_model.specs.Device.Rules.{with_previous, is_above, ends_in_file, is_extent, share_place, extent_test, rule_8, tier_test, rule_9}
use Rattle.kfs_model.specs.Device.Finding.{least_failed}
use Rattle.kfs_model.proofs.DeviceLemmas.Among.{Among, among_all, among_right}
use Rattle.kfs_model.proofs.DeviceLemmas.RulesHold.{AllHold}
use Rattle.kfs_shape.proofs.NameCounts.{all_hold}
use Rattle.kfs_shape.specs.Counts.{count_at}
use Rattle.kfs_shape.specs.Places.{first_position, has_position, TellsWhetherAlone}

-- it has places, and their positions are all in its tier's span
abbrev pub InSpan : ExtentRow → Type 0
InSpan row = (1 ≤ row.count) × (row.place + row.count < 8589934592)

-- tiers of numbers of 32 bits
abbrev pub AreSmall : TierSizes → Type 0
AreSmall sizes = (sizes.first < 4294967296) × (sizes.second < 4294967296) × (sizes.third < 4294967296)

small_tier : (sizes : TierSizes) → AreSmall sizes → (tier : ℕ) → tier_size sizes tier < 4294967296
small_tier sizes small tier = at (tier == 0) (tier == 1) (tier == 2)
  where
    at : (first second third : Bool) → cond first sizes.first (cond second sizes.second (cond third sizes.third 0)) < 4294967296
    at true second third = small.0
    at false true third = small.1
    at false false true = small.2
    at false false false = omega arith

in_span : (heads : Table numbers Header) (sizes : TierSizes) (whole : List ExtentRow) (previous : Option ExtentRow) (x : ExtentRow) → AreSmall sizes → (extent_test heads whole (previous, x)).holds ≡ true
    → (tier_test sizes x).holds ≡ true → InSpan x
in_span heads sizes whole previous x small full lies =
    let parts : (is_above (pairs numbers numbers) (λ row. (row.number, row.block)) (previous, x) && ends_in_file (get heads x.number) x && is_extent whole x) ≡ true = full in
    let some : 1 ≤ x.count = leb-true 1 x.count (left _ _ (left _ _ (right _ _ parts))) in
    let within : x.place + x.count ≤ tier_size sizes x.tier = leb-true (x.place + x.count) (tier_size sizes x.tier) (right (nat_le x.tier 2) (nat_le (x.place + x.count) (tier_size sizes x.tier)) lies) in
    let few = small_tier sizes small x.tier in
    let ends : x.place + x.count < 8589934592 = omega (arith, within, few) in
    (some, ends)

all_from : (heads : Table numbers Header) (sizes : TierSizes) (whole rows : List ExtentRow) (previous : Option ExtentRow) → AreSmall sizes
    → AllHold (map (extent_test heads whole) (with_previous previous rows)) → AllHold (map (tier_test sizes) rows) → AllByRecursion InSpan rows
all_from heads sizes whole [] previous small full lie = tt
all_from heads sizes whole (x ∷ rows) previous small full lie = (in_span heads sizes whole previous x small full.0 lie.0, all_from heads sizes whole rows (Some x) small full.1 lie.1)

-- where the rules on blocks of files and on tiers hold
pub all_in_span : (raw : RawImage) → AreSmall raw.sizes → least_failed (rule_8 raw) ≡ None → least_failed (rule_9 raw) ≡ None → AllByRecursion InSpan raw.extents
all_in_span raw small full lie = all_from (heads_of raw) raw.sizes raw.extents raw.extents None small (all_hold (rule_8 raw) full) (all_hold (rule_9 raw) lie)

-- a row that is gone over is one of all
pub among_rows : {X : Type 0} (rows : List X) (index : ℕ) (row : X) → index < length rows → row ≡ get_or rows index row → Among row rows
among_rows rows index row within is =
    subst (λ xs. Among row xs) (take-append-drop index rows) (among_right (take index rows) (drop index rows) row (subst (λ xs. Among row xs) (sym (drop_more rows index row within)) (inl is)))

module _ {X : Type 0} (test : X → Bool) where
  some_pass : (xs : List X) (x : X) → Among x xs → test x ≡ true → 1 ≤ tally test xs
  unfolding tally
  some_pass [] x among passes = absurd among
  some_pass (y ∷ ys) x among passes =
      ⊎_elim (λ here. let first : test y ≡ true = subst (λ z. test z ≡ true) here passes in subst (λ b. 1 ≤ cond b 1 0 + tally test ys) (sym first) (omega arith))
      (λ later. let rest = some_pass ys x later passes in omega arith) among

  no_pass : (xs : List X) → ((x : X) → Among x xs → test x ≡ false) → tally test xs ≡ 0
  unfolding tally
  no_pass [] fails = refl
  no_pass (x ∷ xs) fails = ap (λ b. cond b 1 0 + tally test xs) (fails x (inl refl)) ∙ zero-add _ ∙ no_pass xs (λ y later. fails y (inr later))

  first_counted : (x : X) (xs : List X) → test x ≡ true → tally test (x ∷ xs) ≡ 1 + tally test xs
  unfolding tally
  first_counted x xs passes = ap (λ b. cond b 1 0 + tally test xs) passes

  rest_counted : (x : X) (xs : List X) → tally test xs ≤ tally test (x ∷ xs)
  unfolding tally
  rest_counted x xs = omega arith

more_counted : {X : Type 0} (one two : X → Bool) (xs : List X) → ((x : X) → Among x xs → one x ≡ true → two x ≡ true) → tally one xs ≤ tally two xs
unfolding tally
more_counted one two [] follows = omega arith
more_counted one two (x ∷ xs) follows = at (one x) (two x) (follows x (inl refl)) (more_counted one two xs (λ y later. follows y (inr later)))
  where
    at : (b c : Bool) → (b ≡ true → c ≡ true) → tally one xs ≤ tally two xs → cond b 1 0 + tally one xs ≤ cond c 1 0 + tally two xs
    at true true then rest = omega arith
    at true false then rest = let no = then refl in cc
    at false c then rest = omega arith

-- ---- positions of two extents

at_position : (position : ℕ) (row : ExtentRow) → first_position row ≤ position → position < first_position row + row.count → has_position position row ≡ true
at_position position row low high = and_from _ _ (le-leb _ _ low) (lt-ltb _ _ high)

has_parts : (position : ℕ) (row : ExtentRow) → has_position position row ≡ true → (first_position row ≤ position) × (position < first_position row + row.count)
has_parts position row there =
    let (low, high) = and_parts (nat_le (first_position row) position) (nat_lt position (first_position row + row.count)) there in
    (leb-true _ _ low, ltb-true _ _ high)

-- a position of both, where they share a place
pub common : (x y : ExtentRow) → 1 ≤ x.count → 1 ≤ y.count → share_place x y ≡ true → (position : ℕ) × (has_position position x ≡ true) × (has_position position y ≡ true)
common x y some_x some_y shared =
    let (tiers, both) = and_parts _ _ shared in
    let (before, behind) = and_parts _ _ both in
    let tier = eqb-true x.tier y.tier tiers in
    let low = ltb-true x.place (y.place + y.count) before in
    let high = ltb-true y.place (x.place + x.count) behind in
    ⊎_elim
    (λ later. (first_position y, at_position (first_position y) x (omega arith) (omega arith), at_position (first_position y) y (omega arith) (omega arith)))
    (λ earlier. (first_position x, at_position (first_position x) x (omega arith) (omega arith), at_position (first_position x) y (omega arith) (omega arith)))
    (cases_lt x.place y.place)

pub shared_at : (x y : ExtentRow) → InSpan x → InSpan y → (position : ℕ) → has_position position x ≡ true → has_position position y ≡ true → share_place x y ≡ true
shared_at x y fits_x fits_y position in_x in_y =
    let (low_x, high_x) = has_parts position x in_x in
    let (low_y, high_y) = has_parts position y in_y in
    let below_x = fits_x.1 in
    let below_y = fits_y.1 in
    let tier : x.tier ≡ y.tier = omega arith in
    and_from _ _ (eq-eqb x.tier y.tier tier) (and_from _ _ (lt-ltb x.place (y.place + y.count) (omega arith)) (lt-ltb y.place (x.place + x.count) (omega arith)))

-- ---- an extent among all

module _ (x : ExtentRow) where
  abbrev FewAt : List ExtentRow → Type 0
  FewAt rows = (position : ℕ) → has_position position x ≡ true → tally (has_position position) rows ≤ 1

  itself : 1 ≤ x.count → share_place x x ≡ true
  itself some =
      let within : x.place < x.place + x.count = omega arith in
      and_from _ _ (eq-eqb x.tier x.tier refl) (and_from _ _ (lt-ltb _ _ within) (lt-ltb _ _ within))

  twice : (y : ExtentRow) (rows : List ExtentRow) (z : ExtentRow) → Among z rows → (position : ℕ) → has_position position y ≡ true → has_position position z ≡ true → 2 ≤ tally (has_position position) (y ∷ rows)
  twice y rows z among position first later =
      let counted = first_counted (has_position position) y rows first in
      let rest = some_pass (has_position position) rows z among later in
      omega arith

  pub once : (rows : List ExtentRow) → InSpan x → AllByRecursion InSpan rows → Among x rows → FewAt rows → tally (share_place x) rows ≤ 1
  unfolding tally
  once [] fits all among few = absurd among
  once (y ∷ rows) fits all among few =
      ⊎_elim
      (λ here.
      let none = no_pass (share_place x) rows (λ z later. false_from_ne_true _ (λ shared.
      let (position, of_x, of_z) = common x z fits.0 (among_all InSpan rows z all.1 later).0 shared in
      let over = twice y rows z later position (subst (λ r. has_position position r ≡ true) here of_x) of_z in
      let under = few position of_x in
      absurd (omega arith))) in
      at (share_place x y) none)
      (λ later.
      let apart : share_place x y ≡ false = false_from_ne_true _ (λ shared.
      let (position, of_x, of_y) = common x y fits.0 all.0.0 shared in
      let over = twice y rows x later position of_y of_x in
      let under = few position of_x in
      absurd (omega arith)) in
      let rest = once rows fits all.1 later (λ position of_x. let all = rest_counted (has_position position) y rows in let under = few position of_x in omega arith) in
      subst (λ b. cond b 1 0 + tally (share_place x) rows ≤ 1) (sym apart) (omega arith))
      among
    where
      at : (b : Bool) → tally (share_place x) rows ≡ 0 → cond b 1 0 + tally (share_place x) rows ≤ 1
      at true none = omega arith
      at false none = omega arith

  pub often : (rows : List ExtentRow) → InSpan x → AllByRecursion InSpan rows → (position : ℕ) → has_position position x ≡ true → tally (has_position position) rows ≤ tally (share_place x) rows
  often rows fits all position of_x = more_counted (has_position position) (share_place x) rows (λ y among of_y. shared_at x y fits (among_all InSpan rows y all among) position of_x of_y)

  -- what the counts tell
  pub alone_tells : (uses : BTreeMap ℕ ℕ) (rows : List ExtentRow) → Among x rows → InSpan x → AllByRecursion InSpan rows → ((n : ℕ) → count_at uses n ≡ tally (has_position n) rows)
      → (alone : Bool) → TellsWhetherAlone uses x alone → alone ≡ nat_le (count_by (share_place x) rows) 1
  alone_tells uses rows among fits all counted true none =
      let few = once rows fits all among (λ position of_x. let under = none position of_x in let is = counted position in omega arith) in
      let tallied = is_tally (share_place x) rows in
      sym (le-leb _ 1 (omega arith))
  alone_tells uses rows among fits all counted false taken =
      let (position, of_x, over) = taken in
      let more = often rows fits all position of_x in
      let is = counted position in
      let tallied = is_tally (share_place x) rows in
      sym (false_from_ne_true _ (λ few. let under = leb-true _ 1 few in absurd (omega arith)))
