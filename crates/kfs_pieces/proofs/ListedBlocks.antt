-- Intervals of blocks, listed one after another.
use Rattle.std.proofs.Common.{◌≡◌, ℕ, suc, ◌+◌, ◌-◌, ◌<◌, ◌≤◌, max, Bool, cond, List, [], ◌∷◌, ◌++◌, length, map, drop, get_or, refl, sym, ap, ◌∙◌, arith, append_assoc}
use Rattle.std.proofs.lemmas.List.{append-nil, drop_all}
use Rattle.kfs_types.specs.Views.{piece_of}
use Rattle.kfs_types.specs.declared.plan.Piece.{Piece as CodePiece}
use Rattle.kfs_pieces.specs.TouchedBlocks.{BlockInterval, goes_on, touches}
use Rattle.kfs_model.specs.Placement.{numbers_from}
use Rattle.kfs_model.specs.Plan.{end_of}
use Rattle.kfs_model.specs.PlanRow.{Piece}
use Rattle.kfs_pieces.proofs.Lists.{drop_next}
use Rattle.kfs_pieces.specs.BlockLists.{HasListed, blocks_between, cleared_from, listed, zeros_start}

listed_next : (next : ℕ) (r : BlockInterval) (rs : List BlockInterval) → listed next (r ∷ rs) ≡ numbers_from (max r.first next) (r.last + 1 - max r.first next) ++ listed (max next (r.last + 1)) rs
unfolding listed
listed_next next r rs = refl

-- ---- a loop over numbers

numbers_more : (n end : ℕ) → n < end → numbers_from n (end - n) ≡ n ∷ numbers_from (n + 1) (end - (n + 1))
numbers_more n end below = let one : end - n ≡ suc (end - (n + 1)) = omega arith in ap (numbers_from n) one

numbers_none : (n end : ℕ) → end ≤ n → numbers_from n (end - n) ≡ []
numbers_none n end over = let none : end - n ≡ 0 = omega arith in ap (numbers_from n) none

pub number_pushed : (out pushed all : List ℕ) (n end : ℕ) → n < end → pushed ≡ out ++ n ∷ [] → out ++ numbers_from n (end - n) ≡ all → pushed ++ numbers_from (n + 1) (end - (n + 1)) ≡ all
number_pushed out pushed all n end below is before =
    ap (λ xs. xs ++ numbers_from (n + 1) (end - (n + 1))) is
    ∙ append_assoc out (n ∷ []) (numbers_from (n + 1) (end - (n + 1)))
    ∙ ap (λ xs. out ++ xs) (sym (numbers_more n end below))
    ∙ before

pub range_listed : (old out : List ℕ) (next n first last : ℕ) → last + 1 ≤ n → out ++ numbers_from n (last + 1 - n) ≡ old ++ numbers_from (max first next) (last + 1 - max first next)
    → HasListed old next (record { first = first; last = last } ∷ []) out (max next (last + 1))
range_listed old out next n first last over is rest =
    let r : BlockInterval = record { first = first; last = last } in
    ap (λ xs. xs ++ listed (max next (last + 1)) rest) (sym (append-nil out) ∙ ap (λ xs. out ++ xs) (sym (numbers_none n (last + 1) over)) ∙ is)
    ∙ append_assoc old (numbers_from (max first next) (last + 1 - max first next)) (listed (max next (last + 1)) rest)
    ∙ ap (λ xs. old ++ xs) (sym (listed_next next r rest))

-- ---- the loop over pieces

pub listed_both : (old mid out : List ℕ) (next later last : ℕ) (front back : List BlockInterval) → HasListed old next front mid later → HasListed mid later back out last → HasListed old next (front ++ back) out last
listed_both old mid out next later last front back one two rest =
    two rest ∙ one (back ++ rest) ∙ ap (λ bs. old ++ listed next bs) (sym (append_assoc front back rest))

pub listed_rows : (size until next : ℕ) (out : List ℕ) (pieces : List CodePiece) (i : ℕ) → length pieces ≤ i → out ++ listed next (touches size until (map piece_of (drop i pieces))) ≡ out
unfolding listed touches
listed_rows size until next out pieces i h = ap (λ xs. out ++ listed next (touches size until (map piece_of xs))) (drop_all i pieces h) ∙ append-nil out

-- ---- the loop over pieces, for the ranges that they clear

module _ (size start end : ℕ) (pieces : List CodePiece) (i : ℕ) where
  cleared_next : (p : Piece) (rs : List Piece) (goes : Bool) → goes_on end (p ∷ rs) ≡ goes
      → cleared_from size start end (p ∷ rs) ≡ cond goes (cleared_from size start (end_of p) rs) (blocks_between size start end ++ cleared_from size (zeros_start p) (end_of p) rs)
  unfolding cleared_from
  cleared_next p rs goes is = ap (λ b. cond b (cleared_from size start (end_of p) rs) (blocks_between size start end ++ cleared_from size (zeros_start p) (end_of p) rs)) is

  pub cleared_row : (d : CodePiece) (goes : Bool) → i < length pieces → goes_on end (map piece_of (drop i pieces)) ≡ goes
      → cleared_from size start end (map piece_of (drop i pieces))
      ≡ cond goes (cleared_from size start (end_of (piece_of (get_or pieces i d))) (map piece_of (drop (i + 1) pieces)))
      (blocks_between size start end ++ cleared_from size (zeros_start (piece_of (get_or pieces i d))) (end_of (piece_of (get_or pieces i d))) (map piece_of (drop (i + 1) pieces)))
  cleared_row d goes h is =
      let row : map piece_of (drop i pieces) ≡ piece_of (get_or pieces i d) ∷ map piece_of (drop (i + 1) pieces) = ap (map piece_of) (drop_next pieces i d h) in
      ap (cleared_from size start end) row ∙ cleared_next (piece_of (get_or pieces i d)) (map piece_of (drop (i + 1) pieces)) goes (ap (goes_on end) (sym row) ∙ is)

  pub cleared_rows : length pieces ≤ i → cleared_from size start end (map piece_of (drop i pieces)) ≡ blocks_between size start end
  unfolding cleared_from
  cleared_rows h = ap (λ xs. cleared_from size start end (map piece_of xs)) (drop_all i pieces h)
