-- Ways of climbs: what a way says of a climb, and what stops and steps that are kept say of ways.
use Rattle.std.specs.Prelude.{◌≡◌, ℕ, suc, zero, ◌+◌, ◌<◌, ◌≤◌, ◌≢◌, ◌⊎◌, AllPairs, nat_eq, is_some, position, Bool, true, false, List, [], ◌∷◌, ◌++◌, length, slice_index_or, Option, Some, None, unwrap_or, Result, Ok, Err, OnOk, OnErr, refl}
use Rattle.std.specs.List.{IsDistinct, list_any}
use Rattle.std.proofs.Common.{ap, sym, subst, ◌∙◌, arith, inl, inr}
use Rattle.std.proofs.lemmas.Bool.{cases_lt, eq-eqb, eqb-true}
use Rattle.std.proofs.lemmas.List.Folds.{list_any_at}
use Rattle.std.proofs.lemmas.List.Quantifiers.{position-Some}
use Rattle.std.proofs.lemmas.Bool.Decides.{Decides-eqb}
use Rattle.std.proofs.lemmas.Map.Made.{AllPairs-from_IsDistinct}
use mathlib.Core.Bool.{true≢false}
use Rattle.kfs_model.specs.Sight.{climb_meets}
use Rattle.kfs_judge_reads.specs.Kept.{ReadsShown}
use Rattle.kfs_judge_reads.specs.Reads.{Grows, IsPart}
use Rattle.kfs_judge_reads.specs.declared.reads.Read.{Read}
use Rattle.kfs_judge_reads.specs.declared.reads.ReadAnswer.{ReadAnswer}
use Rattle.kfs_judge_reads.specs.Climbs.{climbed_cells, IsWay, directory_at, is_stop, HasLinks, Follows, ClimbsHold}
use Rattle.kfs_judge_reads.specs.declared.climbs.Climbs.{Climbs}
use Rattle.kfs_judge_reads.proofs.ReadsAgree.{grows_by_one}
use Rattle.kfs_judge_reads.proofs.Climbing.{climb-goes_on, climbed_behind}

module _ (parent : ℕ → Option ℕ) where
  -- a node is met behind a way as it is met from its beginning
  pub climb_meets_behind : (fuel node steps rest from last : ℕ) → fuel ≡ steps + rest → IsWay parent node steps from last → climb_meets parent fuel node from ≡ climb_meets parent rest node last
  unfolding IsWay
  climb_meets_behind fuel node zero rest from last is way = let same : fuel ≡ rest = omega (arith, is) in λ i. climb_meets parent (same i) node (way i)
  climb_meets_behind fuel node (suc steps) rest from last is way =
      let more : fuel ≡ suc (steps + rest) = omega (arith, is) in
      climb-goes_on parent fuel (steps + rest) node from way.0 more way.1 way.2 ∙ climb_meets_behind (steps + rest) node steps rest way.0 last refl way.3

  -- what is passed behind a way is passed from its beginning
  pub climbed_behind_way : (fuel node steps rest from last : ℕ) → fuel ≡ steps + rest → IsWay parent node steps from last → IsPart (climbed_cells parent rest last) (climbed_cells parent fuel from)
  unfolding IsWay
  climbed_behind_way fuel node zero rest from last is way cell there = let same : fuel ≡ rest = omega (arith, is) in subst (λ part. IsPart part (climbed_cells parent fuel from)) (λ i. climbed_cells parent (same i) (way i)) (λ c h. h) cell there
  climbed_behind_way fuel node (suc steps) rest from last is way cell there =
      let more : fuel ≡ suc (steps + rest) = omega (arith, is) in
      climbed_behind parent fuel (steps + rest) from way.0 more way.2 cell (climbed_behind_way (steps + rest) node steps rest way.0 last refl way.3 cell there)

  -- a parent is a way of one step
  pub one_step : (node from up : ℕ) → (from ≡ node → ⊥) → parent from ≡ Some up → IsWay parent node 1 from up
  unfolding IsWay
  one_step node from up other leads = (up, other, leads, refl)

  pub no_step : (node from : ℕ) → IsWay parent node 0 from from
  unfolding IsWay
  no_step node from = refl

  -- directories that stand one after another are a way
  pub stretch_is_way : (order : List ℕ) (node steps start end : ℕ) → end ≡ start + steps
      → ((p : ℕ) → start ≤ p → p < end → parent (slice_index_or order p 0) ≡ Some (slice_index_or order (p + 1) 0))
      → ((p : ℕ) → start ≤ p → p < end → slice_index_or order p 0 ≡ node → ⊥)
      → IsWay parent node steps (slice_index_or order start 0) (slice_index_or order end 0)
  unfolding IsWay
  stretch_is_way order node zero start end is links others = let same : start ≡ end = omega (arith, is) in ap (λ p. slice_index_or order p 0) same
  stretch_is_way order node (suc steps) start end is links others = (
    slice_index_or order (start + 1) 0,
    others start (omega arith) (omega (arith, is)),
    links start (omega arith) (omega (arith, is)),
    stretch_is_way order node steps (start + 1) end (omega (arith, is)) (λ p after before. links p (omega (arith, after)) before) (λ p after before. others p (omega (arith, after)) before),
  )

-- ---- along the parents that entries have written

was_clear : (before now : Bool) → (before ≡ true → now ≡ true) → now ≡ false → before ≡ false
was_clear true now stays clear = absurd (true≢false (sym (stays refl) ∙ clear))
was_clear false now stays clear = refl

-- a link that no stop ends is also that of parents which are the state's but for directories that have stops
pub links_over : {A : Type 0} (climbs : Climbs A) (are : ℕ → Bool) (parent seen : ℕ → Option ℕ) → Follows are climbs → ((n : ℕ) → are n ≡ false → parent n ≡ seen n) → HasLinks seen climbs → HasLinks parent climbs
links_over climbs are parent seen follows same links place inside clear =
    same (directory_at climbs place) (was_clear (are (directory_at climbs place)) (is_stop climbs place) (follows.stops place (omega (arith, inside))) clear) ∙ links place inside clear

-- ---- places

-- no directory stands at two places
pub only_place : (order : List ℕ) → IsDistinct nat_eq order → (one other : ℕ) → one < length order → other < length order → slice_index_or order one 0 ≡ slice_index_or order other 0 → one ≡ other
only_place order distinct one other one_in other_in same = by_order (cases_lt one other) (cases_lt other one)
  where
    apart : AllPairs (λ x y. x ≢ y) order
    apart = AllPairs-from_IsDistinct Decides-eqb order distinct

    by_order : (one < other) ⊎ (other ≤ one) → (other < one) ⊎ (one ≤ other) → one ≡ other
    by_order (inl less) _ = absurd (apart one other 0 less other_in same)
    by_order (inr here) (inl more) = absurd (apart other one 0 more one_in (sym same))
    by_order (inr here) (inr there) = omega (arith, here, there)

module _ (order : List ℕ) (distinct : IsDistinct nat_eq order) (number : ℕ) where
  -- a look for the directory finds its place
  pub found_place : (place : ℕ) → place < length order → slice_index_or order place 0 ≡ number → (found : Option ℕ) → found ≡ position (nat_eq number) order → is_some found ≡ list_any (nat_eq number) order → found ≡ Some place
  found_place place inside here None is any = absurd (true≢false (sym (list_any_at (nat_eq number) order place 0 inside (eq-eqb number (slice_index_or order place 0) (sym here))) ∙ sym any))
  found_place place inside here (Some other) is any =
      let at = position-Some (nat_eq number) order other 0 (sym is) in
      ap Some (only_place order distinct other place at.0 inside (sym (eqb-true number (slice_index_or order other 0) at.1) ∙ sym here))

-- a parent that no entry has written is the state's
pub unwritten : (written : Option (Option ℕ)) (seen : Option ℕ) → is_some written ≡ false → unwrap_or written seen ≡ seen
unwritten None seen is = refl
unwritten (Some parent) seen is = absurd (true≢false is)

-- ---- what is known of the kept ways, after one more read

pub hold_further : {A : Type 0} (old new : List (Read × ReadAnswer)) (climbs : Climbs A) → Grows old new → ClimbsHold old climbs → ClimbsHold new climbs
hold_further old new climbs grows hold = record { links = λ state agrees. hold.links state (grows state agrees); stops = hold.stops }

pub hold_added : {A X E : Type 0} (climbs : Climbs A) (result : Result X E) (old new : ReadsShown) (read : Read) (seen : ReadAnswer)
    → OnOk result (new ≡ record old { entries = old.entries ++ (read, seen) ∷ [] }) → OnErr result (new ≡ old) → ClimbsHold old.entries climbs → ClimbsHold new.entries climbs
hold_added climbs (Ok x) old new read seen added same hold = hold_further old.entries new.entries climbs (grows_by_one old.entries new.entries read seen (ap (λ (r : ReadsShown). r.entries) added)) hold
hold_added climbs (Err error) old new read seen added same hold = subst (λ (r : ReadsShown). ClimbsHold r.entries climbs) (sym same) hold
