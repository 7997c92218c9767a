-- One range laid over another.
use Rattle.std.proofs.Common.{◌≡◌, ℕ, ◌*◌, ◌<◌, ◌≤◌, List, [], ◌∷◌, refl, sym, subst, arith}
use Rattle.std.specs.List.{AllByRecursion}
use Rattle.kfs_model.specs.Plan.{ComesBy}
use Rattle.kfs_pieces.specs.declared.merge.ByteRange.{ByteRange}
use Rattle.kfs_pieces.specs.ByteRanges.{AreFrom, last_origin, merged, origin_at}
use Rattle.kfs_pieces.specs.Made.{IsFit}
use Rattle.kfs_pieces.specs.RangeCounts.{edge_count, filled_count}
use Rattle.kfs_pieces.proofs.FewRanges.{halves_are_few, one_is_few}
use Rattle.kfs_pieces.proofs.Fits.{merged_fit}
use Rattle.kfs_pieces.proofs.LastOrigin.{halves_in_order, halves_say}

-- a range is a list in order
alone_in_order : (s : ByteRange) → s.start < s.end → AreFrom 0 0 (s ∷ [])
alone_in_order s filled = (let first : ComesBy 0 0 s.number s.start = grind arith in first, filled, tt)

module _ (l u : ByteRange) (out : List ByteRange) (is : out ≡ merged (l ∷ []) (u ∷ [])) (lower : l.start < l.end) (upper : u.start < u.end) where
  pub over_in_order : AreFrom 0 0 out
  over_in_order = halves_in_order (l ∷ u ∷ []) (l ∷ []) (u ∷ []) out 1 is (alone_in_order l lower) (alone_in_order u upper)

  pub over_says : (n p : ℕ) → origin_at out n p ≡ last_origin (l ∷ u ∷ []) n p
  over_says = halves_say (l ∷ u ∷ []) (l ∷ []) (u ∷ []) out 1 is (alone_in_order l lower) (alone_in_order u upper) (λ n p. refl) (λ n p. refl)

  pub over_fits : IsFit l → IsFit u → AllByRecursion IsFit out
  over_fits first second = subst (AllByRecursion IsFit) (sym is) (merged_fit (u ∷ []) (l ∷ []) (first, tt) (second, tt))

  pub over_is_few : edge_count 0 0 out ≤ 2 * filled_count (l ∷ u ∷ [])
  over_is_few = halves_are_few (l ∷ u ∷ []) (l ∷ []) (u ∷ []) out 1 is (alone_in_order l lower) (alone_in_order u upper) (one_is_few l (l ∷ []) refl lower) (one_is_few u (u ∷ []) refl upper)
