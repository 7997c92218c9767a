-- Lists that grow at their end: what ascends still does with a greater element behind it, and rows are
-- worked off one after another.
use Rattle.std.proofs.Common.{◌≡◌, ℕ, ◌+◌, ◌<◌, ◌≤◌, List, [], ◌∷◌, ◌++◌, length, map, drop, slice_index_or, All, append_assoc, append-nil, ⊎_elim, sym, ap, subst, ◌∙◌, arith}
use Rattle.std.proofs.lemmas.Bool.{cases_lt}
use Rattle.std.proofs.lemmas.List.{drop_all, get_or_append_left, get_or_push, length_push}
use Rattle.std.proofs.lemmas.List.Elements.{All-get_or}

module _ {X : Type 0} (Below : X → X → Type 0) where
  -- a list that ascends does so with a greater element behind it
  pub ascends_further : (xs : List X) (x : X) → ((i j : ℕ) (d : X) → i < j → j < length xs → Below (slice_index_or xs i d) (slice_index_or xs j d)) → All (λ y. Below y x) xs
      → (i j : ℕ) (d : X) → i < j → j < length (xs ++ x ∷ []) → Below (slice_index_or (xs ++ x ∷ []) i d) (slice_index_or (xs ++ x ∷ []) j d)
  ascends_further xs x ascend under i j d less within = ⊎_elim inside last (cases_lt j (length xs))
    where
      inside : j < length xs → Below (slice_index_or (xs ++ x ∷ []) i d) (slice_index_or (xs ++ x ∷ []) j d)
      inside below =
          subst (λ y. Below y (slice_index_or (xs ++ x ∷ []) j d)) (sym (get_or_append_left xs (x ∷ []) d i (omega (arith, less, below))))
          (subst (Below (slice_index_or xs i d)) (sym (get_or_append_left xs (x ∷ []) d j below)) (ascend i j d less below))

      last : length xs ≤ j → Below (slice_index_or (xs ++ x ∷ []) i d) (slice_index_or (xs ++ x ∷ []) j d)
      last past =
          let is : length xs ≡ j = omega (arith, past, within, length_push xs x) in
          subst (λ y. Below y (slice_index_or (xs ++ x ∷ []) j d)) (sym (get_or_append_left xs (x ∷ []) d i (omega (arith, less, is))))
          (subst (Below (slice_index_or xs i d)) (sym (get_or_push xs x d j is)) (All-get_or (λ y. Below y x) xs i d (omega (arith, less, is)) under))

  pub none_ascends : (i j : ℕ) (d : X) → i < j → j < length {A = X} [] → Below (slice_index_or [] i d) (slice_index_or [] j d)
  none_ascends i j d less within = absurd (omega (arith, within))

module _ {X Y : Type 0} (part : X → Y) where
  -- what one row more makes, and what the rows left make
  pub one_made : (rows : List X) (i : ℕ) (row : X) (old new all : List Y) → drop i rows ≡ row ∷ drop (i + 1) rows → new ≡ old ++ part row ∷ [] → old ++ map part (drop i rows) ≡ all → new ++ map part (drop (i + 1) rows) ≡ all
  one_made rows i row old new all next is so_far =
      ap (λ made. made ++ map part (drop (i + 1) rows)) is
      ∙ append_assoc old (part row ∷ []) (map part (drop (i + 1) rows))
      ∙ sym (ap (λ rest. old ++ map part rest) next)
      ∙ so_far

  pub all_made : (rows : List X) (i : ℕ) (made all : List Y) → length rows ≤ i → made ++ map part (drop i rows) ≡ all → made ≡ all
  all_made rows i made all past so_far = sym (ap (λ rest. made ++ map part rest) (drop_all i rows past) ∙ append-nil made) ∙ so_far
