-- Ranges of blocks counted one after another.
use Rattle.std.proofs.Common.{◌≡◌, ℕ, ◌+◌, ◌-◌, ◌<◌, ◌≤◌, max, List, ◌∷◌, ◌++◌, map, drop, length, get_or, refl, sym, ap, ◌∙◌, arith, append_assoc}
use Rattle.kfs_types.specs.declared.plan.Piece.{Piece as CodePiece}
use Rattle.kfs_types.specs.Views.{piece_of}
use Rattle.kfs_model.specs.PlanRow.{Piece, Source}
use Rattle.kfs_model.specs.Plan.{end_of}
use Rattle.kfs_pieces.specs.PieceBlocks.{piece_blocks, zeros_until}
use Rattle.std.proofs.lemmas.List.{drop_all}
use Rattle.kfs_pieces.proofs.Lists.{drop_next}
use Rattle.kfs_pieces.specs.TouchedBlocks.{BlockInterval, counted, goes_on, touches}

counted_next : (next : ℕ) (r : BlockInterval) (rs : List BlockInterval) → counted next (r ∷ rs) ≡ (r.last + 1 - max r.first next) + counted (max next (r.last + 1)) rs
unfolding counted
counted_next next r rs = refl

module _ (next first last total : ℕ) (rest : List BlockInterval) (order : first ≤ last) where
  pub none_new : last < max next first → total + counted next rest ≡ total + counted next (record { first = first; last = last } ∷ rest)
  none_new old =
      let none : last + 1 - max first next ≡ 0 = omega arith in
      let same : max next (last + 1) ≡ next = omega arith in
      let plus : total + counted next rest ≡ total + (0 + counted next rest) = omega arith in
      plus ∙ sym (ap (λ n. total + n) (counted_next next (record { first = first; last = last }) rest ∙ λ i. none i + counted (same i) rest))

  pub some_new : max next first ≤ last → total + (last + 1 - max next first) + counted (last + 1) rest ≡ total + counted next (record { first = first; last = last } ∷ rest)
  some_new new =
      let from : max first next ≡ max next first = omega arith in
      let far : max next (last + 1) ≡ last + 1 = omega arith in
      let plus : total + (last + 1 - max next first) + counted (last + 1) rest ≡ total + ((last + 1 - max next first) + counted (last + 1) rest) = omega arith in
      plus ∙ sym (ap (λ n. total + n) (counted_next next (record { first = first; last = last }) rest ∙ λ i. (last + 1 - from i) + counted (far i) rest))

touches_next : (size until : ℕ) (p : Piece) (rs : List Piece) → touches size until (p ∷ rs) ≡ piece_blocks size until (goes_on (end_of p) rs) p ++ touches size (zeros_until p) rs
unfolding touches
touches_next size until p rs = at p.source
  where
    at : (source : Source) → touches size until (record p { source = source } ∷ rs) ≡ piece_blocks size until (goes_on (end_of p) rs) (record p { source = source }) ++ touches size (zeros_until (record p { source = source })) rs
    at Source.Zero = sym (append_assoc _ _ (touches size (end_of p) rs))
    at (Source.Payload entry place) = refl

pub touches_row : (size until : ℕ) (pieces : List CodePiece) (i : ℕ) (d : CodePiece) → i < length pieces
    → touches size until (map piece_of (drop i pieces)) ≡ piece_blocks size until (goes_on (end_of (piece_of (get_or pieces i d))) (map piece_of (drop (i + 1) pieces))) (piece_of (get_or pieces i d)) ++ touches size (zeros_until (piece_of (get_or pieces i d))) (map piece_of (drop (i + 1) pieces))
touches_row size until pieces i d h =
    ap (λ xs. touches size until (map piece_of xs)) (drop_next pieces i d h) ∙ touches_next size until (piece_of (get_or pieces i d)) (map piece_of (drop (i + 1) pieces))

pub counted_rows : (size until next total : ℕ) (pieces : List CodePiece) (i : ℕ) → length pieces ≤ i → total + counted next (touches size until (map piece_of (drop i pieces))) ≡ total
unfolding counted touches
counted_rows size until next total pieces i h =
    let none : total + 0 ≡ total = omega arith in
    ap (λ xs. total + counted next (touches size until (map piece_of xs))) (drop_all i pieces h) ∙ none
