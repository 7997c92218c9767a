-- The pieces that a block needs, one piece after the other.
use Rattle.std.proofs.Common.{◌≡◌, ℕ, ◌+◌, ◌<◌, ◌≤◌, ◌++◌, true, false, cond, List, [], ◌∷◌, length, take, drop, map, refl, sym, ap, ◌∙◌, append_assoc}
use Rattle.std.proofs.Math.ListN.{get_or}
use Rattle.std.proofs.lemmas.List.{append-nil, drop_all, drop_more, map_more}
use Rattle.kfs_model.specs.PlanRow.{Piece}
use Rattle.kfs_types.specs.Views.{piece_of}
use Rattle.kfs_types.specs.declared.plan.Piece.{Piece as CodePiece}
use Rattle.kfs_desk.specs.Fill.Bytes.{ends_by, begins_before, reaching, beginning}

module _ (n q : ℕ) where
  reaching_over : (p : Piece) (ps : List Piece) → ends_by n q p ≡ true → reaching n q (p ∷ ps) ≡ reaching n q ps
  unfolding reaching
  reaching_over p ps over = ap (λ b. cond b (reaching n q ps) (p ∷ ps)) over

  reaching_first : (p : Piece) (ps : List Piece) → ends_by n q p ≡ false → reaching n q (p ∷ ps) ≡ p ∷ ps
  unfolding reaching
  reaching_first p ps over = ap (λ b. cond b (reaching n q ps) (p ∷ ps)) over

  reaching_none : reaching n q [] ≡ []
  unfolding reaching
  reaching_none = refl

  beginning_first : (p : Piece) (ps : List Piece) → begins_before n q p ≡ true → beginning n q (p ∷ ps) ≡ p ∷ beginning n q ps
  unfolding beginning
  beginning_first p ps begins = ap (λ b. cond b (p ∷ beginning n q ps) []) begins

  beginning_past : (p : Piece) (ps : List Piece) → begins_before n q p ≡ false → beginning n q (p ∷ ps) ≡ []
  unfolding beginning
  beginning_past p ps begins = ap (λ b. cond b (p ∷ beginning n q ps) []) begins

  beginning_none : beginning n q [] ≡ []
  unfolding beginning
  beginning_none = refl

  module _ (pieces : List CodePiece) (i : ℕ) where
    pub reaching_next : (d : CodePiece) → i < length pieces → ends_by n q (piece_of (get_or pieces i d)) ≡ true
        → reaching n q (map piece_of (drop (i + 1) pieces)) ≡ reaching n q (map piece_of (drop i pieces))
    reaching_next d inside over = sym (
        ap (λ ps. reaching n q (map piece_of ps)) (drop_more pieces i d inside)
        ∙ reaching_over (piece_of (get_or pieces i d)) (map piece_of (drop (i + 1) pieces)) over)

    pub reaching_here : (d : CodePiece) → i < length pieces → ends_by n q (piece_of (get_or pieces i d)) ≡ false → reaching n q (map piece_of (drop i pieces)) ≡ map piece_of (drop i pieces)
    reaching_here d inside over =
        let from = drop_more pieces i d inside in
        ap (λ ps. reaching n q (map piece_of ps)) from ∙ reaching_first (piece_of (get_or pieces i d)) (map piece_of (drop (i + 1) pieces)) over ∙ sym (ap (map piece_of) from)

    pub reaching_end : length pieces ≤ i → reaching n q (map piece_of (drop i pieces)) ≡ map piece_of (drop i pieces)
    reaching_end past = let none = drop_all i pieces past in ap (λ ps. reaching n q (map piece_of ps)) none ∙ reaching_none ∙ sym (ap (map piece_of) none)

    -- those taken so far, and those of the rest that begin before the byte
    abbrev pub begun : List Piece
    begun = map piece_of (take i pieces) ++ beginning n q (map piece_of (drop i pieces))

    pub beginning_here : (d : CodePiece) → i < length pieces → begins_before n q (piece_of (get_or pieces i d)) ≡ false → begun ≡ map piece_of (take i pieces)
    beginning_here d inside begins =
        ap (λ ps. map piece_of (take i pieces) ++ beginning n q (map piece_of ps)) (drop_more pieces i d inside)
        ∙ ap (λ ps. map piece_of (take i pieces) ++ ps) (beginning_past (piece_of (get_or pieces i d)) (map piece_of (drop (i + 1) pieces)) begins)
        ∙ append-nil (map piece_of (take i pieces))

    pub beginning_end : length pieces ≤ i → begun ≡ map piece_of (take i pieces)
    beginning_end past =
        ap (λ ps. map piece_of (take i pieces) ++ beginning n q (map piece_of ps)) (drop_all i pieces past)
        ∙ ap (λ ps. map piece_of (take i pieces) ++ ps) beginning_none
        ∙ append-nil (map piece_of (take i pieces))

  pub beginning_next : (pieces : List CodePiece) (i : ℕ) (d : CodePiece) → i < length pieces → begins_before n q (piece_of (get_or pieces i d)) ≡ true → begun pieces (i + 1) ≡ begun pieces i
  beginning_next pieces i d inside begins =
      let later = beginning n q (map piece_of (drop (i + 1) pieces)) in
      ap (λ ps. ps ++ later) (map_more piece_of pieces i d inside)
      ∙ append_assoc (map piece_of (take i pieces)) (piece_of (get_or pieces i d) ∷ []) later
      ∙ sym (ap (λ ps. map piece_of (take i pieces) ++ beginning n q (map piece_of ps)) (drop_more pieces i d inside)
      ∙ ap (λ ps. map piece_of (take i pieces) ++ ps) (beginning_first (piece_of (get_or pieces i d)) (map piece_of (drop (i + 1) pieces)) begins))
