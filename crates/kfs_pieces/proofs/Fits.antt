-- What is laid out of ranges that fit fits too.
use Rattle.std.proofs.Common.{◌≡◌, ℕ, ◌<◌, ◌≤◌, Bool, true, false, cond, ltb, leb, eqb, ◌&&◌, ◌||◌, List, [], ◌∷◌, zero, suc, get_or, length, refl, arith}
use Rattle.std.specs.List.{AllByRecursion}
use Rattle.std.proofs.lemmas.Bool.Decides.{nat_tests}
use Rattle.kfs_model.proofs.WrittenBlocks.{all_append}
use Rattle.kfs_pieces.specs.declared.merge.Origin.{Origin}
use Rattle.kfs_pieces.specs.declared.merge.Origin.TheVariants.{Zero, Payload}
use Rattle.kfs_pieces.specs.declared.merge.ByteRange.{ByteRange}
use Rattle.kfs_pieces.specs.ByteRanges.{AreFrom, ends_by, begins_before, cut_below, cut_from, merged}
use Rattle.kfs_pieces.specs.Made.{IsPlacedAt, IsFit}

within_cut : (k s e n p : ℕ) → (ltb k n || (eqb k n && leb e p)) ≡ false → (eqb k n && ltb s p) ≡ true → (s < p) × (p < e)
within_cut k s e n p h i = grind (arith, nat_tests)

front_placed : (o : Origin) (s e p : ℕ) → IsPlacedAt o s e → s < p → p < e → IsPlacedAt o s p
front_placed Zero s e p placed h k = tt
front_placed (Payload entry offset) s e p placed h k = let high = placed.1 in (placed.0, omega arith)

back_placed : (o : Origin) (s e p : ℕ) → IsPlacedAt o s e → s < p → p < e → IsPlacedAt o p e
back_placed Zero s e p placed h k = tt
back_placed (Payload entry offset) s e p placed h k = let low = placed.0 in (omega arith, placed.1)

module _ (n p : ℕ) where
  below_fit : (ls : List ByteRange) → AllByRecursion IsFit ls → AllByRecursion IsFit (cut_below n p ls)
  unfolding cut_below
  below_fit [] fit = tt
  below_fit (s ∷ ss) fit = at (ends_by n p s) refl (begins_before n p s) refl (below_fit ss fit.1)
    where
      at : (a : Bool) → ends_by n p s ≡ a → (b : Bool) → begins_before n p s ≡ b → AllByRecursion IsFit (cut_below n p ss) → AllByRecursion IsFit (cond a (s ∷ cut_below n p ss) (cond b (record s { end = p } ∷ []) []))
      at true ends b begins more = (fit.0, more)
      at false ends true begins more =
          let cut = within_cut s.number s.start s.end n p ends begins in
          let far = fit.0.end in
          (record { end = (let e : p ≤ 4294967296 = omega arith in e); placed = front_placed s.origin s.start s.end p fit.0.placed cut.0 cut.1 }, tt)
      at false ends false begins more = tt

  from_fit : (ls : List ByteRange) → AllByRecursion IsFit ls → AllByRecursion IsFit (cut_from n p ls)
  unfolding cut_from
  from_fit [] fit = tt
  from_fit (s ∷ ss) fit = at (ends_by n p s) refl (begins_before n p s) refl (from_fit ss fit.1)
    where
      at : (a : Bool) → ends_by n p s ≡ a → (b : Bool) → begins_before n p s ≡ b → AllByRecursion IsFit (cut_from n p ss) → AllByRecursion IsFit (cond a (cut_from n p ss) (cond b (record s { start = p } ∷ ss) (s ∷ ss)))
      at true ends b begins more = more
      at false ends true begins more =
          let cut = within_cut s.number s.start s.end n p ends begins in
          (record { end = fit.0.end; placed = back_placed s.origin s.start s.end p fit.0.placed cut.0 cut.1 }, fit.1)
      at false ends false begins more = fit

pub merged_fit : (us ls : List ByteRange) → AllByRecursion IsFit ls → AllByRecursion IsFit us → AllByRecursion IsFit (merged ls us)
unfolding merged
merged_fit [] ls lower upper = lower
merged_fit (u ∷ us) ls lower upper =
    all_append IsFit (cut_below u.number u.start ls) (u ∷ merged (cut_from u.number u.end (cut_from u.number u.start ls)) us) (below_fit u.number u.start ls lower)
    (upper.0, merged_fit us (cut_from u.number u.end (cut_from u.number u.start ls)) (from_fit u.number u.end (cut_from u.number u.start ls) (from_fit u.number u.start ls lower)) upper.1)

pub filled_at : (ss : List ByteRange) (n p i : ℕ) (d : ByteRange) → i < length ss → AreFrom n p ss → (get_or ss i d).start < (get_or ss i d).end
filled_at [] n p i d h from = absurd (omega arith)
filled_at (s ∷ ss) n p zero d h from = from.1
filled_at (s ∷ ss) n p (suc i) d h from = filled_at ss s.number s.end i d (omega arith) from.2
