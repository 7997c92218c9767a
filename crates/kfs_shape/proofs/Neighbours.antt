-- An extent and the one before it tell as much of shared blocks as all pairs of extents do.
use Rattle.std.proofs.Common.{◌≡◌, ℕ, ◌+◌, ◌<◌, ◌≤◌, ◌==◌, ◌&&◌, ◌||◌, not, nat_le, Bool, true, false, cond, List, [], ◌∷◌, map, count_by, ◌⊎◌, inl, inr, ⊎_elim, Option, Some, None, refl, sym, ap, subst, ◌∙◌, arith, eq-eqb, eqb-true, leb-true, le-leb, ltb-true, lt-ltb, zero-add}
use Rattle.std.specs.declared.cmp.Ordering.{Ordering}
use Rattle.std.specs.declared.cmp.Ordering.TheVariants.{Less, Equal, Greater}
use Rattle.std.specs.Ordering.{is_lt, nat_cmp, ordering_then}
use Rattle.std.proofs.lemmas.Bool.{or_right, ne_eqb, false_from_ne_true, cases_lt}
use Rattle.std.proofs.lemmas.Cmp.{ranked}
use Rattle.kfs_model.specs.Header.{Header}
use Rattle.kfs_model.specs.Table.{Table, numbers, pairs, get}
use Rattle.kfs_model.proofs.CleanIsAllowed.{left, right}
use Rattle.kfs_model.proofs.Counts.{tally, is_tally}
use Rattle.kfs_model.specs.Device.RawImage.{ExtentRow}
use Rattle.kfs_model.specs.Device.Rules.{test, with_previous, is_above, share_block, ends_in_file, is_extent, extent_test}
use Rattle.kfs_model.specs.Device.Finding.{least_failed}
use Rattle.kfs_model.proofs.DeviceLemmas.Among.{Among}
use Rattle.kfs_shape.proofs.OneLeast.{Clean, same_least}
use Rattle.kfs_shape.specs.Extents.{is_behind, is_full, is_in_place}

-- ---- an extent behind another

-- of a later file, or of the same one and at its end or later
abbrev Behind : ExtentRow → ExtentRow → Type 0
Behind p x = (p.number < x.number) ⊎ ((p.number ≡ x.number) × (p.block + p.count ≤ x.block))

-- of a later file, or of the same one and with an end that isn't lower
abbrev Beyond : ExtentRow → ExtentRow → Type 0
Beyond r p = (r.number < p.number) ⊎ ((r.number ≡ p.number) × (r.block + r.count ≤ p.block + p.count))

lower : (a b : ℕ) → is_lt (nat_cmp a b) ≡ true → a < b
lower a b less = at (nat_cmp a b) refl less
  where
    at : (o : Ordering) → nat_cmp a b ≡ o → is_lt o ≡ true → a < b
    at Less is below = ranked a b Less (sym is)
    at Equal is below = cc
    at Greater is below = cc

key_below : (m n b c : ℕ) → is_lt (ordering_then (nat_cmp m n) (nat_cmp b c)) ≡ true → (m < n) ⊎ ((m ≡ n) × (b < c))
key_below m n b c less = at (nat_cmp m n) refl less
  where
    at : (o : Ordering) → nat_cmp m n ≡ o → is_lt (ordering_then o (nat_cmp b c)) ≡ true → (m < n) ⊎ ((m ≡ n) × (b < c))
    at Less is below = inl (ranked m n Less (sym is))
    at Equal is below = inr (numbers.exact m n is, lower b c below)
    at Greater is below = cc

both : (a b : Bool) → a ≡ true → b ≡ true → (a && b) ≡ true
both true b first second = second
both false b first second = cc

regrouped : (a b c d : Bool) → (a && (b && c)) ≡ true → d ≡ true → (a && b && d) ≡ true
regrouped true true c d all last = last
regrouped true false c d all last = cc
regrouped false b c d all last = cc

apart : {ends : Bool} (tied : Bool) → tied ≡ true → (not tied || ends) ≡ true → ends ≡ true
apart true is holds = holds
apart false is holds = cc

behind_from : (p x : ExtentRow) → is_above (pairs numbers numbers) (λ row. (row.number, row.block)) (Some p, x) ≡ true → is_behind (Some p) x ≡ true → Behind p x
behind_from p x above behind =
    ⊎_elim (λ later. inl later)
    (λ same. inr (same.0, leb-true _ _ (apart (p.number == x.number) (eq-eqb p.number x.number same.0) behind)))
    (key_below p.number x.number p.block x.block above)

step_behind : (x y r : ExtentRow) → Behind x y → Behind y r → Behind x r
step_behind x y r first second =
    ⊎_elim
    (λ less. ⊎_elim (λ below. inl (omega arith)) (λ same. let is = same.0 in inl (omega arith)) second)
    (λ tied. let is = tied.0 in let ends = tied.1 in ⊎_elim (λ below. inl (omega arith)) (λ same. let too = same.0 in let begins = same.1 in inr (omega arith, omega arith)) second)
    first

step_beyond : (r p x : ExtentRow) → Beyond r p → Behind p x → Beyond r x × Behind r x
step_beyond r p x first second =
    ⊎_elim
    (λ less. let below : r.number < x.number = ⊎_elim (λ later. omega arith) (λ same. let is = same.0 in omega arith) second in (inl below, inl below))
    (λ tied.
    let is = tied.0 in
    let ends = tied.1 in
    ⊎_elim
    (λ later. let below : r.number < x.number = omega arith in (inl below, inl below))
    (λ same. let too = same.0 in let begins = same.1 in (inr (omega arith, omega arith), inr (omega arith, omega arith)))
    second)
    first

not_before : (r x : ExtentRow) → Behind r x → share_block r x ≡ false
not_before r x behind =
    false_from_ne_true _ (λ shared.
    let same = eqb-true r.number x.number (left _ _ shared) in
    let below = ltb-true x.block (r.block + r.count) (right _ _ (right _ _ shared)) in
    ⊎_elim (λ later. omega arith) (λ tied. let ends = tied.1 in omega arith) behind)

not_behind : (r x : ExtentRow) → Behind x r → share_block r x ≡ false
not_behind r x behind =
    false_from_ne_true _ (λ shared.
    let same = eqb-true r.number x.number (left _ _ shared) in
    let below = ltb-true r.block (x.block + x.count) (left _ _ (right _ _ shared)) in
    ⊎_elim (λ later. omega arith) (λ tied. let ends = tied.1 in omega arith) behind)

-- ---- one extent after another

abbrev number_of : Option ExtentRow × ExtentRow → ℕ
number_of e = e.1.number

module _ (heads : Table numbers Header) where
  -- in place behind the row before it
  abbrev pub beside : Option ExtentRow × ExtentRow → Bool
  beside e = is_in_place (get heads e.1.number) e

  -- in place by all pairs of rows
  abbrev by_pairs : List ExtentRow → Option ExtentRow × ExtentRow → Bool
  by_pairs rows e = is_above (pairs numbers numbers) (λ row. (row.number, row.block)) e && ends_in_file (get heads e.1.number) e.1 && is_extent rows e.1

  beside_behind : (p x : ExtentRow) → beside (Some p, x) ≡ true → Behind p x
  beside_behind p x holds = behind_from p x (left _ _ (left _ _ (left _ _ holds))) (right _ _ holds)

  abbrev AreClean : ℕ → Option ExtentRow → List ExtentRow → Type 0
  AreClean n previous rows = Clean number_of beside n (with_previous previous rows)

  -- none behind what is beyond an extent shares a block with it
  none_later : (n : ℕ) (r p : ExtentRow) (rows : List ExtentRow) → r.number ≤ n → Beyond r p → AreClean n (Some p) rows → tally (share_block r) rows ≡ 0
  unfolding tally
  none_later n r p [] low beyond clean = refl
  none_later n r p (x ∷ rows) low beyond clean =
      let (next, behind) : Beyond r x × Behind r x =
      ⊎_elim (λ above. let less : r.number < x.number = omega arith in (inl less, inl less)) (λ below. step_beyond r p x beyond (beside_behind p x (clean.0 below))) (cases_lt n x.number)
      in
      let apart : share_block r x ≡ false = not_before r x behind in
      ap (λ b. cond b 1 0 + tally (share_block r) rows) apart ∙ zero-add (tally (share_block r) rows) ∙ none_later n r x rows low next clean.1

  -- each one is behind all those before it
  behind_all : (n : ℕ) (x r : ExtentRow) (rows : List ExtentRow) → r.number ≤ n → Among r rows → AreClean n (Some x) rows → Behind x r
  behind_all n x r [] low among clean = absurd among
  behind_all n x r (y ∷ rows) low among clean =
      ⊎_elim
      (λ here. subst (Behind x) (sym here) (beside_behind x y (clean.0 (subst (λ row. row.number ≤ n) here low))))
      (λ later.
      let then : Behind y r = behind_all n y r rows low later clean.1 in
      let below : y.number ≤ n = ⊎_elim (λ less. omega arith) (λ same. let is = same.0 in omega arith) then in
      step_behind x y r (beside_behind x y (clean.0 below)) then)
      among

  beyond_itself : (r : ExtentRow) → Beyond r r
  beyond_itself r = let same : r.block + r.count ≤ r.block + r.count = omega arith in inr (refl, same)

  one_at_most : (b : Bool) (rest : ℕ) → rest ≡ 0 → cond b 1 0 + rest ≤ 1
  one_at_most true rest none = omega arith
  one_at_most false rest none = omega arith

  shared_once : (n : ℕ) (previous : Option ExtentRow) (r : ExtentRow) (rows : List ExtentRow) → r.number ≤ n → Among r rows → AreClean n previous rows → tally (share_block r) rows ≤ 1
  unfolding tally
  shared_once n previous r [] low among clean = absurd among
  shared_once n previous r (x ∷ rows) low among clean =
      ⊎_elim
      (λ here. one_at_most (share_block r x) _ (none_later n r x rows low (subst (Beyond r) here (beyond_itself r)) clean.1))
      (λ later.
      let apart : share_block r x ≡ false = not_behind r x (behind_all n x r rows low later clean.1) in
      subst (λ b. cond b 1 0 + tally (share_block r) rows ≤ 1) (sym apart) (let rest = shared_once n (Some x) r rows low later clean.1 in omega arith))
      among

  in_place_from : (rows : List ExtentRow) (previous : Option ExtentRow) (x : ExtentRow) → beside (previous, x) ≡ true → count_by (share_block x) rows ≤ 1 → by_pairs rows (previous, x) ≡ true
  in_place_from rows previous x holds few =
      let first = left _ _ (left _ _ holds) in
      let full = right _ _ (left _ _ holds) in
      both _ _ first (both _ _ full (le-leb _ 1 few))

  -- the tests of neighbours hold as far as a number, so those of all pairs do
  pairs_clean : (n : ℕ) (whole : List ExtentRow) (previous : Option ExtentRow) (rows : List ExtentRow)
      → ((x : ExtentRow) → x.number ≤ n → Among x rows → count_by (share_block x) whole ≤ 1) → AreClean n previous rows → Clean number_of (by_pairs whole) n (with_previous previous rows)
  pairs_clean n whole previous [] once clean = tt
  pairs_clean n whole previous (x ∷ rows) once clean =
      (λ low. in_place_from whole previous x (clean.0 low) (once x low (inl refl)), pairs_clean n whole (Some x) rows (λ y low among. once y low (inr among)) clean.1)

  -- ---- from all pairs to neighbours

  -- the row before and the rest
  abbrev from_before : Option ExtentRow → List ExtentRow → List ExtentRow
  from_before None rows = rows
  from_before (Some p) rows = p ∷ rows

  -- the rest of the rows counts no more than all
  abbrev IsPart : List ExtentRow → List ExtentRow → Type 0
  IsPart part whole = (test : ExtentRow → Bool) → tally test part ≤ tally test whole

  part_behind : (previous : Option ExtentRow) (rows whole : List ExtentRow) → IsPart (from_before previous rows) whole → IsPart rows whole
  unfolding tally
  part_behind None rows whole part test = part test
  part_behind (Some p) rows whole part test = let all = part test in omega arith

  itself_shared : (x : ExtentRow) → 1 ≤ x.count → share_block x x ≡ true
  itself_shared x some =
      let within : x.block < x.block + x.count = omega arith in
      both _ _ (eq-eqb x.number x.number refl) (both _ _ (lt-ltb x.block (x.block + x.count) within) (lt-ltb x.block (x.block + x.count) within))

  counted_twice : (p x : ExtentRow) (rows whole : List ExtentRow) → IsPart (p ∷ x ∷ rows) whole → share_block x p ≡ true → share_block x x ≡ true → count_by (share_block x) whole ≤ 1 → ⊥
  unfolding tally
  counted_twice p x rows whole part first second few =
      let all : 1 + (1 + tally (share_block x) rows) ≤ tally (share_block x) whole = subst (λ b. cond b 1 0 + (1 + tally (share_block x) rows) ≤ tally (share_block x) whole) first
      (subst (λ b. cond (share_block x p) 1 0 + (cond b 1 0 + tally (share_block x) rows) ≤ tally (share_block x) whole) second (part (share_block x))) in
      let counted = is_tally (share_block x) whole in
      omega arith

  behind_of : (previous : Option ExtentRow) (x : ExtentRow) (rows whole : List ExtentRow) → IsPart (from_before previous (x ∷ rows)) whole → by_pairs whole (previous, x) ≡ true → is_behind previous x ≡ true
  behind_of None x rows whole part holds = refl
  behind_of (Some p) x rows whole part holds =
      let some = leb-true 1 x.count (left _ _ (left _ _ (right _ _ holds))) in
      let few = leb-true _ 1 (right _ _ (right _ _ holds)) in
      ⊎_elim
      (λ later. let other : (p.number == x.number) ≡ false = ne_eqb p.number x.number (λ same. omega arith) in ap (λ b. not b || nat_le (p.block + p.count) x.block) other)
      (λ tied.
      let same = tied.0 in
      let below = tied.1 in
      ⊎_elim
      (λ over. let shared : share_block x p ≡ true = both _ _ (eq-eqb x.number p.number (sym same)) (both _ _ (lt-ltb _ _ over) (lt-ltb _ _ (omega arith))) in absurd (counted_twice p x rows whole part shared (itself_shared x some) few))
      (λ under. or_right _ _ (le-leb _ _ under))
      (cases_lt x.block (p.block + p.count)))
      (key_below p.number x.number p.block x.block (left _ _ (left _ _ holds)))

  neighbours_clean : (n : ℕ) (whole : List ExtentRow) (previous : Option ExtentRow) (rows : List ExtentRow) → IsPart (from_before previous rows) whole → Clean number_of (by_pairs whole) n (with_previous previous rows) → AreClean n previous rows
  neighbours_clean n whole previous [] part clean = tt
  neighbours_clean n whole previous (x ∷ rows) part clean = (
    λ low. regrouped (is_above (pairs numbers numbers) (λ row. (row.number, row.block)) (previous, x) && ends_in_file (get heads x.number) x) (is_full x) (nat_le (count_by (share_block x) whole) 1) (is_behind previous x) (clean.0 low)
        (behind_of previous x rows whole part (clean.0 low)),
    neighbours_clean n whole (Some x) rows (part_behind previous (x ∷ rows) whole part) clean.1,
  )

  -- neighbours break the rule of shared blocks at the least number at which all pairs do
  pub neighbours_tell : (rows : List ExtentRow) → least_failed (map (λ e. test (beside e) e.1.number) (with_previous None rows)) ≡ least_failed (map (extent_test heads rows) (with_previous None rows))
  neighbours_tell rows =
      same_least number_of beside (by_pairs rows) (with_previous None rows)
      (λ n clean. pairs_clean n rows None rows (λ x low among. let once = shared_once n None x rows low among clean in let counted = is_tally (share_block x) rows in omega arith) clean)
      (λ n clean. neighbours_clean n rows None rows (λ t. omega arith) clean)
