-- Elements of a list pushed one after another, each turned into something else.
use Rattle.std.proofs.Common.{◌≡◌, ℕ, ◌+◌, ◌<◌, ◌≤◌, List, [], ◌∷◌, ◌++◌, length, drop, map, get_or, sym, ap, ◌∙◌}
use Rattle.std.proofs.lemmas.List.{append-nil, append_assoc, drop_all}
use Rattle.kfs_pieces.proofs.Lists.{drop_next}

module _ {X Y : Type 0} (f : X → Y) (xs : List X) (i : ℕ) (out all : List Y) where
  pub pushed_one : (d : X) (new : List Y) → i < length xs → new ≡ out ++ f (get_or xs i d) ∷ [] → out ++ map f (drop i xs) ≡ all → new ++ map f (drop (i + 1) xs) ≡ all
  pushed_one d new below are so_far =
      ap (λ ys. ys ++ map f (drop (i + 1) xs)) are
      ∙ append_assoc out (f (get_or xs i d) ∷ []) (map f (drop (i + 1) xs))
      ∙ ap (λ ys. out ++ map f ys) (sym (drop_next xs i d below))
      ∙ so_far

  pub pushed_all : length xs ≤ i → out ++ map f (drop i xs) ≡ all → out ≡ all
  pushed_all past so_far = sym (append-nil out) ∙ ap (λ ys. out ++ map f ys) (sym (drop_all i xs past)) ∙ so_far
