-- One right piece at a time: what is left of right pieces behind a piece, and where a plan's pieces are first apart from them.
use Rattle.std.proofs.Common.{◌≡◌, ℕ, ◌+◌, ◌<◌, ◌≤◌, Bool, true, false, ◌==◌, ltb, List, [], ◌∷◌, map, drop, length, get_or, Option, Some, None, is_some, refl, ap, ◌∙◌, arith}
use Rattle.std.proofs.lemmas.Bool.{eq-eqb, ne_eqb, lt-ltb, le-ltb}
use Rattle.std.proofs.lemmas.List.{drop_all}
use Rattle.kfs_pieces.proofs.Lists.{drop_next}
use Rattle.kfs_model.specs.PlanRow.{Piece}
use Rattle.kfs_pieces.specs.PiecesApart.{begins_alike, behind_piece, first_apart, without_front}
use Rattle.kfs_types.specs.declared.plan.Piece.{Piece as CodePiece}
use Rattle.kfs_types.specs.Views.{piece_of}
use Rattle.kfs_pieces.specs.declared.compare.Rest.{Rest}
use Rattle.kfs_pieces.specs.Rests.{rest_of}
use Rattle.kfs_pieces.proofs.Rests.{rest_some, rest_none}

module _ (p r : Piece) (rs : List Piece) where
  abbrev answer : Bool → Bool → Bool → Option (List Piece)
  answer a b c = elim a [ false ↦ None | true ↦ elim b [ true ↦ Some (without_front p.length r ∷ rs) | false ↦ elim c [ true ↦ Some rs | false ↦ behind_piece (without_front r.length p) rs ] ] ]

  answer_is : behind_piece p (r ∷ rs) ≡ answer (begins_alike p r) (ltb p.length r.length) (p.length == r.length)
  unfolding behind_piece
  answer_is = refl

  answer_at : (a b c : Bool) → begins_alike p r ≡ a → ltb p.length r.length ≡ b → (p.length == r.length) ≡ c → behind_piece p (r ∷ rs) ≡ answer a b c
  answer_at a b c e f g = answer_is ∙ (λ i. answer (e i) (f i) (g i))

  pub behind_other : begins_alike p r ≡ false → behind_piece p (r ∷ rs) ≡ None
  behind_other e = answer_at false (ltb p.length r.length) (p.length == r.length) e refl refl

  pub behind_shorter : begins_alike p r ≡ true → p.length < r.length → behind_piece p (r ∷ rs) ≡ Some (without_front p.length r ∷ rs)
  behind_shorter e h = answer_at true true (p.length == r.length) e (lt-ltb p.length r.length h) refl

  pub behind_equal : begins_alike p r ≡ true → p.length ≡ r.length → behind_piece p (r ∷ rs) ≡ Some rs
  behind_equal e h = answer_at true false true e (le-ltb p.length r.length (omega arith)) (eq-eqb p.length r.length h)

  pub behind_longer : begins_alike p r ≡ true → r.length ≤ p.length → (p.length ≡ r.length → ⊥) → behind_piece p (r ∷ rs) ≡ behind_piece (without_front r.length p) rs
  behind_longer e h other = answer_at true false false e (le-ltb p.length r.length h) (ne_eqb p.length r.length other)

pub behind_nothing : (p : Piece) → behind_piece p [] ≡ None
unfolding behind_piece
behind_nothing p = refl

-- ---- a plan's pieces

module _ (index : ℕ) (p : Piece) (ps right : List Piece) where
  abbrev found : Bool → Option (List Piece) → Option ℕ
  found b o = elim b [ true ↦ Some index | false ↦ elim o [ None ↦ Some index | Some rest ↦ first_apart (index + 1) ps rest ] ]

  found_is : first_apart index (p ∷ ps) right ≡ found (p.length == 0) (behind_piece p right)
  unfolding first_apart
  found_is = refl

  pub apart_empty : p.length ≡ 0 → first_apart index (p ∷ ps) right ≡ Some index
  apart_empty h = found_is ∙ ap (λ b. found b (behind_piece p right)) (eq-eqb p.length 0 h)

  pub apart_other : (p.length ≡ 0 → ⊥) → behind_piece p right ≡ None → first_apart index (p ∷ ps) right ≡ Some index
  apart_other some none = found_is ∙ (λ i. found (ne_eqb p.length 0 some i) (none i))

  pub apart_later : (p.length ≡ 0 → ⊥) → (rest : List Piece) → behind_piece p right ≡ Some rest → first_apart index (p ∷ ps) right ≡ first_apart (index + 1) ps rest
  apart_later some rest is = found_is ∙ (λ i. found (ne_eqb p.length 0 some i) (is i))

pub apart_ends : (index : ℕ) → first_apart index [] [] ≡ None
unfolding first_apart
apart_ends index = refl

pub apart_left : (index : ℕ) (r : Piece) (rs : List Piece) → first_apart index [] (r ∷ rs) ≡ Some index
unfolding first_apart
apart_left index r rs = refl

-- at a row of the plan
module _ (pieces : List CodePiece) (index : ℕ) (d : CodePiece) (below : index < length pieces) (right : List Piece) where
  pub row_is : first_apart index (map piece_of (drop index pieces)) right ≡ first_apart index (piece_of (get_or pieces index d) ∷ map piece_of (drop (index + 1) pieces)) right
  row_is = ap (λ xs. first_apart index (map piece_of xs) right) (drop_next pieces index d below)

pub rows_end : (pieces : List CodePiece) (index : ℕ) (right : List Piece) → length pieces ≤ index → first_apart index (map piece_of (drop index pieces)) right ≡ first_apart index [] right
rows_end pieces index right h = ap (λ xs. first_apart index (map piece_of xs) right) (drop_all index pieces h)

-- behind the last row
module _ (list : List CodePiece) (index : ℕ) where
  pub some_are_left : (left : Rest CodePiece) → is_some left.front ≡ true → first_apart index [] (map piece_of (rest_of list left)) ≡ Some index
  some_are_left left some = at left.front refl some
    where
      at : (o : Option CodePiece) → left.front ≡ o → is_some o ≡ true → first_apart index [] (map piece_of (rest_of list left)) ≡ Some index
      at None is some = cc
      at (Some r) is some = ap (λ xs. first_apart index [] (map piece_of xs)) (rest_some list left r is) ∙ apart_left index (piece_of r) (map piece_of (drop left.next list))

  pub none_is_left : (left : Rest CodePiece) → is_some left.front ≡ false → first_apart index [] (map piece_of (rest_of list left)) ≡ None
  none_is_left left none = at left.front refl none
    where
      at : (o : Option CodePiece) → left.front ≡ o → is_some o ≡ false → first_apart index [] (map piece_of (rest_of list left)) ≡ None
      at None is none = ap (λ xs. first_apart index [] (map piece_of xs)) (rest_none list left is) ∙ apart_ends index
      at (Some r) is none = cc
