-- Extents that are joined as far as they go on.
use Rattle.std.proofs.Common.{◌≡◌, ◌+◌, ◌==◌, ◌&&◌, Bool, true, false, cond, List, [], ◌∷◌, refl, sym, ◌∙◌, arith, eqb-true}
use Rattle.kfs_model.proofs.CleanIsAllowed.{left, right}
use Rattle.kfs_model.specs.Device.RawImage.{ExtentRow}
use Rattle.kfs_model.specs.Device.Canonical.{goes_on, as_one, with_extent, joined_extents, AreJoined}

-- what an extent goes on to, when the next one does
pub record GoesOn (row next : ExtentRow) : Type 0 where
  pub number : next.number ≡ row.number
  pub block : next.block ≡ row.block + row.count
  pub tier : next.tier ≡ row.tier
  pub place : next.place ≡ row.place + row.count

pub it_goes_on : (row next : ExtentRow) → goes_on row next ≡ true → GoesOn row next
it_goes_on row next is = record {
  number = eqb-true _ _ (left _ _ (left _ _ (left _ _ is)));
  block = eqb-true _ _ (right _ _ (left _ _ (left _ _ is)));
  tier = eqb-true _ _ (right _ _ (left _ _ is));
  place = eqb-true _ _ (right _ _ is);
}

-- what goes on from the next one goes on from both as one
same_end : (row next third : ExtentRow) → GoesOn row next → goes_on (as_one row next) third ≡ goes_on next third
same_end row next third on =
    let block : row.block + (row.count + next.count) ≡ next.block + next.count = let there = on.block in omega (arith, there) in
    let place : row.place + (row.count + next.count) ≡ next.place + next.count = let there = on.place in omega (arith, there) in
    λ i. (third.number == sym on.number i) && (third.block == block i) && (third.tier == sym on.tier i) && (third.place == place i)

joined_with : (row : ExtentRow) (rows : List ExtentRow) → AreJoined rows → AreJoined (with_extent row rows)
joined_with row [] joined = tt
joined_with row (next ∷ rows) joined = at (goes_on row next) refl
  where
    as_one_before : (rows : List ExtentRow) → GoesOn row next → AreJoined (next ∷ rows) → AreJoined (as_one row next ∷ rows)
    as_one_before [] on joined = tt
    as_one_before (third ∷ rows) on joined = (same_end row next third on ∙ joined.0, joined.1)

    at : (on : Bool) → goes_on row next ≡ on → AreJoined (cond on (as_one row next ∷ rows) (row ∷ next ∷ rows))
    at true is = as_one_before rows (it_goes_on row next is) joined
    at false is = (is, joined)

pub are_joined : (rows : List ExtentRow) → AreJoined (joined_extents rows)
unfolding joined_extents
are_joined [] = tt
are_joined (row ∷ rows) = joined_with row (joined_extents rows) (are_joined rows)
