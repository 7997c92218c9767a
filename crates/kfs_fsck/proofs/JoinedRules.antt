-- Extents that are joined break no rule where the single ones break none.
use Rattle.std.proofs.Common.{◌≡◌, ℕ, ◌+◌, ◌-◌, ◌*◌, ◌≤◌, ◌==◌, ◌&&◌, ◌||◌, not, nat_le, nat_lt, Bool, true, false, cond, List, [], ◌∷◌, ◌++◌, length, map, count_by, Option, Some, None, inl, inr, ⊎_elim, refl, sym, ap, ◌∙◌, arith, eq-eqb, eqb-true, leb-true, le-leb, lt-ltb}
use Rattle.std.specs.declared.cmp.Ordering.TheVariants.{Less}
use Rattle.std.specs.Bool.{passes}
use Rattle.std.specs.Ordering.{is_lt}
use Rattle.std.specs.List.{AllByRecursion}
use Rattle.std.proofs.lemmas.Bool.{and_from, cases_lt}
use Rattle.std.proofs.lemmas.Bool.Decides.{nat_tests}
use Rattle.std.proofs.lemmas.List.{length-append}
use Rattle.kfs_model.specs.Header.{Header}
use Rattle.kfs_model.specs.Table.{Table, numbers, pairs, get}
use Rattle.kfs_model.specs.Sight.{is_file}
use Rattle.kfs_model.specs.Check.{is_some_and}
use Rattle.kfs_model.specs.Placement.{TierSizes, tier_size}
use Rattle.kfs_model.proofs.CleanIsAllowed.{left, right}
use Rattle.kfs_model.proofs.Counts.{tally, is_tally, any_tally, is_less}
use Rattle.kfs_model.specs.Device.RawImage.{ExtentRow, RawImage, heads_of}
use Rattle.kfs_model.specs.Device.Rules.{Test, test, with_previous, is_above, ends_in_file, tier_test, share_place, place_test, rule_8, rule_9, rule_10}
use Rattle.kfs_model.specs.Device.Finding.{least_of, least_failed}
use Rattle.kfs_model.specs.Device.Canonical.{goes_on, as_one, with_extent, joined_extents}
use Rattle.kfs_model.proofs.DeviceLemmas.Among.{Among, among_all}
use Rattle.kfs_model.proofs.DeviceLemmas.JoinedExtents.{GoesOn, it_goes_on}
use Rattle.kfs_model.proofs.DeviceLemmas.OnlyOne.{among_any}
use Rattle.kfs_model.proofs.DeviceLemmas.RulesHold.{AllHold}
use Rattle.kfs_shape.specs.Extents.{is_behind, is_full}
use Rattle.kfs_shape.specs.Places.{first_position, has_position}
use Rattle.kfs_shape.proofs.NameCounts.{all_hold}
use Rattle.kfs_shape.proofs.Neighbours.{beside, neighbours_tell}
use Rattle.kfs_shape.proofs.SharedPlaces.{InSpan, AreSmall, all_in_span, once, often}

full_of : (row : ExtentRow) → is_full row ≡ true → (1 ≤ row.count) × (length row.bytes ≡ row.count * 4096)
full_of row holds =
    (leb-true 1 row.count (left (nat_le 1 row.count) (length row.bytes == row.count * 4096) holds), eqb-true (length row.bytes) (row.count * 4096) (right (nat_le 1 row.count) (length row.bytes == row.count * 4096) holds))

both_full : (row next : ExtentRow) → is_full row ≡ true → is_full next ≡ true → is_full (as_one row next) ≡ true
both_full row next first second =
    let one = full_of row first in
    let two = full_of next second in
    let some = one.0 in
    let here = one.1 in
    let there = two.1 in
    let long = length-append row.bytes next.bytes in
    and_from _ _ (le-leb 1 (row.count + next.count) (omega (arith, some))) (eq-eqb (length (row.bytes ++ next.bytes)) ((row.count + next.count) * 4096) (omega (arith, long, here, there)))

none_from_hold : (tests : List Test) → AllHold tests → least_failed tests ≡ None
none_from_hold [] hold = refl
none_from_hold (t ∷ ts) hold = ap (λ b. cond b (least_failed ts) (Some (least_of t.number (least_failed ts)))) hold.0 ∙ none_from_hold ts hold.1

module _ (heads : Table numbers Header) where
  -- ---- blocks of files

  -- each extent is in place behind the one before it
  abbrev AreBeside : Option ExtentRow → List ExtentRow → Type 0
  AreBeside previous rows = AllByRecursion (λ e. beside heads e ≡ true) (with_previous previous rows)

  abbrev tests_beside : Option ExtentRow → List ExtentRow → List Test
  tests_beside previous rows = map (λ e. test (beside heads e) e.1.number) (with_previous previous rows)

  from_tests : (previous : Option ExtentRow) (rows : List ExtentRow) → AllHold (tests_beside previous rows) → AreBeside previous rows
  from_tests previous [] hold = tt
  from_tests previous (row ∷ rows) hold = (hold.0, from_tests (Some row) rows hold.1)

  to_tests : (previous : Option ExtentRow) (rows : List ExtentRow) → AreBeside previous rows → AllHold (tests_beside previous rows)
  to_tests previous [] are = tt
  to_tests previous (row ∷ rows) are = (are.0, to_tests (Some row) rows are.1)

  above_of : (p x : ExtentRow) → is_above (pairs numbers numbers) (λ row. (row.number, row.block)) (Some p, x) ≡ true → (pairs numbers numbers).compare (p.number, p.block) (x.number, x.block) ≡ Less
  above_of p x above = is_less _ (passes _ above)

  -- what stands behind the next one stands behind both as one
  behind_both : (row next third : ExtentRow) → GoesOn row next → beside heads (Some row, next) ≡ true → beside heads (Some next, third) ≡ true → beside heads (Some (as_one row next), third) ≡ true
  behind_both row next third on first second =
      let at = on.block in
      let ends : row.block + (row.count + next.count) ≡ next.block + next.count = omega (arith, at) in
      let key : (pairs numbers numbers).compare (row.number, row.block) (third.number, third.block) ≡ Less =
      (pairs numbers numbers).total.trans (row.number, row.block) (next.number, next.block) (third.number, third.block) (above_of row next (left _ _ (left _ _ (left _ _ first)))) (above_of next third (left _ _ (left _ _ (left _ _ second)))) in
      and_from _ _
      (and_from _ _ (and_from _ _ (ap is_lt key) (right _ _ (left _ _ (left _ _ second)))) (right _ _ (left _ _ second)))
      ((λ i. not (sym on.number i == third.number) || nat_le (ends i) third.block) ∙ right _ _ second)

  both_end : (row next : ExtentRow) → GoesOn row next → ends_in_file (get heads next.number) next ≡ true → ends_in_file (get heads row.number) (as_one row next) ≡ true
  both_end row next on holds =
      let at = on.block in
      let last : row.block + (row.count + next.count) ≡ next.block + next.count = omega (arith, at) in
      (λ i. is_some_and (get heads (sym on.number i)) (λ h. is_file (Some h) && nat_lt ((last i - 1) * 4096) h.size)) ∙ holds

  -- both as one stand where the first one stands
  both_beside : (previous : Option ExtentRow) (row next : ExtentRow) → GoesOn row next → beside heads (previous, row) ≡ true → beside heads (Some row, next) ≡ true → beside heads (previous, as_one row next) ≡ true
  both_beside previous row next on first second =
      and_from _ _
      (and_from _ _
      (and_from _ _ (above previous (left _ _ (left _ _ (left _ _ first)))) (both_end row next on (right _ _ (left _ _ (left _ _ second)))))
      (both_full row next (right _ _ (left _ _ first)) (right _ _ (left _ _ second))))
      (behind previous (right _ _ first))
    where
      above : (previous : Option ExtentRow) → is_above (pairs numbers numbers) (λ row. (row.number, row.block)) (previous, row) ≡ true → is_above (pairs numbers numbers) (λ row. (row.number, row.block)) (previous, as_one row next) ≡ true
      above None holds = holds
      above (Some p) holds = holds

      behind : (previous : Option ExtentRow) → is_behind previous row ≡ true → is_behind previous (as_one row next) ≡ true
      behind None holds = holds
      behind (Some p) holds = holds

  joined_beside : (previous : Option ExtentRow) (rows : List ExtentRow) → AreBeside previous rows → AreBeside previous (joined_extents rows)
  unfolding joined_extents
  joined_beside previous [] are = tt
  joined_beside previous (row ∷ rows) are = with_one (joined_extents rows) (joined_beside (Some row) rows are.1)
    where
      with_one : (rest : List ExtentRow) → AreBeside (Some row) rest → AreBeside previous (with_extent row rest)
      with_one [] rest = (are.0, tt)
      with_one (next ∷ more) rest = at (goes_on row next) refl
        where
          after : (more : List ExtentRow) → GoesOn row next → AreBeside (Some next) more → AreBeside (Some (as_one row next)) more
          after [] on behind = tt
          after (third ∷ more) on behind = (behind_both row next third on rest.0 behind.0, behind.1)

          at : (on : Bool) → goes_on row next ≡ on → AreBeside previous (cond on (as_one row next ∷ more) (row ∷ next ∷ more))
          at true is = let on = it_goes_on row next is in (both_beside previous row next on are.0 rest.0, after more on rest.1)
          at false is = (are.0, rest)

  -- ---- tiers

  joined_in_tiers : (sizes : TierSizes) (rows : List ExtentRow) → AllHold (map (tier_test sizes) rows) → AllHold (map (tier_test sizes) (joined_extents rows))
  unfolding joined_extents
  joined_in_tiers sizes [] hold = tt
  joined_in_tiers sizes (row ∷ rows) hold = with_one (joined_extents rows) (joined_in_tiers sizes rows hold.1)
    where
      with_one : (rest : List ExtentRow) → AllHold (map (tier_test sizes) rest) → AllHold (map (tier_test sizes) (with_extent row rest))
      with_one [] rest = (hold.0, tt)
      with_one (next ∷ more) rest = at (goes_on row next) refl
        where
          both : GoesOn row next → (tier_test sizes (as_one row next)).holds ≡ true
          both on =
              let lies = on.place in
              let last : row.place + (row.count + next.count) ≡ next.place + next.count = omega (arith, lies) in
              (λ i. nat_le (sym on.tier i) 2 && nat_le (last i) (tier_size sizes (sym on.tier i))) ∙ rest.0

          at : (on : Bool) → goes_on row next ≡ on → AllHold (map (tier_test sizes) (cond on (as_one row next ∷ more) (row ∷ next ∷ more)))
          at true is = (both (it_goes_on row next is), rest.1)
          at false is = (hold.0, rest)

-- ---- device blocks

counted_both : (position : ℕ) (row next : ExtentRow) → GoesOn row next → cond (has_position position (as_one row next)) 1 0 ≡ cond (has_position position row) 1 0 + cond (has_position position next) 1 0
counted_both position row next on =
    let lies = on.place in
    let tier = on.tier in
    let start : first_position next ≡ first_position row + row.count = omega (arith, lies, tier) in
    in_a_row (first_position row) row.count next.count
    ∙ (λ i. cond (nat_le (first_position row) position && nat_lt position (first_position row + row.count)) 1 0 + cond (nat_le (sym start i) position && nat_lt position (sym start i + next.count)) 1 0)
  where
    in_a_row : (first count more : ℕ) → cond (nat_le first position && nat_lt position (first + (count + more))) 1 0
        ≡ cond (nat_le first position && nat_lt position (first + count)) 1 0 + cond (nat_le (first + count) position && nat_lt position (first + count + more)) 1 0
    in_a_row first count more = grind (arith, nat_tests)

joined_counted : (position : ℕ) (rows : List ExtentRow) → tally (has_position position) (joined_extents rows) ≡ tally (has_position position) rows
unfolding joined_extents tally
joined_counted position [] = refl
joined_counted position (row ∷ rows) = with_one (joined_extents rows) ∙ ap (λ n. cond (has_position position row) 1 0 + n) (joined_counted position rows)
  where
    with_one : (rest : List ExtentRow) → tally (has_position position) (with_extent row rest) ≡ cond (has_position position row) 1 0 + tally (has_position position) rest
    with_one [] = refl
    with_one (next ∷ more) = at (goes_on row next) refl
      where
        at : (on : Bool) → goes_on row next ≡ on → tally (has_position position) (cond on (as_one row next ∷ more) (row ∷ next ∷ more)) ≡ cond (has_position position row) 1 0 + (cond (has_position position next) 1 0 + tally (has_position position) more)
        at true is = let both = counted_both position row next (it_goes_on row next is) in omega (arith, both)
        at false is = refl

-- ---- the rules of extents

module _ (raw : RawImage) (small : AreSmall raw.sizes) (holds_8 : least_failed (rule_8 raw) ≡ None) (holds_9 : least_failed (rule_9 raw) ≡ None) (holds_10 : least_failed (rule_10 raw) ≡ None) where
  abbrev joined : RawImage
  joined = record raw { extents = joined_extents raw.extents }

  pub joined_8 : least_failed (rule_8 joined) ≡ None
  joined_8 =
      sym (neighbours_tell (heads_of raw) joined.extents)
      ∙ none_from_hold _ (to_tests (heads_of raw) None joined.extents (joined_beside (heads_of raw) None raw.extents (from_tests (heads_of raw) None raw.extents (all_hold _ (neighbours_tell (heads_of raw) raw.extents ∙ holds_8)))))

  pub joined_9 : least_failed (rule_9 joined) ≡ None
  joined_9 = none_from_hold _ (joined_in_tiers (heads_of raw) raw.sizes raw.extents (all_hold (rule_9 raw) holds_9))

  few_at : (position : ℕ) → tally (has_position position) raw.extents ≤ 1
  few_at position = ⊎_elim (λ few. omega (arith, few)) (λ some. among (among_any (has_position position) raw.extents (any_tally (has_position position) raw.extents ∙ lt-ltb 0 (tally (has_position position) raw.extents) (omega (arith, some))))) (cases_lt (tally (has_position position) raw.extents) 1)
    where
      each_alone : (rows : List ExtentRow) → AllHold (map (place_test raw.extents) rows) → AllByRecursion (λ row. tally (share_place row) raw.extents ≤ 1) rows
      each_alone [] hold = tt
      each_alone (row ∷ rows) hold = (let few = leb-true _ 1 hold.0 in let counted = is_tally (share_place row) raw.extents in omega arith, each_alone rows hold.1)

      among : (row : ExtentRow) × Among row raw.extents × (has_position position row ≡ true) → tally (has_position position) raw.extents ≤ 1
      among (row, there, has) =
          let spans = all_in_span raw small holds_8 holds_9 in
          let more = often row raw.extents (among_all InSpan raw.extents row spans there) spans position has in
          let alone = among_all (λ row. tally (share_place row) raw.extents ≤ 1) raw.extents row (each_alone raw.extents (all_hold (rule_10 raw) holds_10)) there in
          omega arith

  pub joined_10 : least_failed (rule_10 joined) ≡ None
  joined_10 = none_from_hold _ (each joined.extents (λ row there. there))
    where
      spans : AllByRecursion InSpan joined.extents
      spans = all_in_span joined small joined_8 joined_9

      alone : (row : ExtentRow) → Among row joined.extents → (place_test joined.extents row).holds ≡ true
      alone row there =
          let few = once row joined.extents (among_all InSpan joined.extents row spans there) spans there (λ position has. let same = joined_counted position raw.extents in let most = few_at position in omega arith) in
          let counted = is_tally (share_place row) joined.extents in
          le-leb (count_by (share_place row) joined.extents) 1 (omega (arith, few, counted))

      each : (rows : List ExtentRow) → ((row : ExtentRow) → Among row rows → Among row joined.extents) → AllHold (map (place_test joined.extents) rows)
      each [] all = tt
      each (row ∷ rows) all = (alone row (all row (inl refl)), each rows (λ other there. all other (inr there)))
