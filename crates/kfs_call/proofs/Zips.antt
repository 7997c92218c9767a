-- Two lists that are related item by item.
use Rattle.std.proofs.Common.{◌≡◌, ℕ, ◌+◌, ◌<◌, List, [], ◌∷◌, ◌++◌, length, take, get_or, sym, ap, subst, ◌∙◌}
use Rattle.std.specs.List.{AllZip}
use Rattle.std.proofs.lemmas.List.{take_more}

-- one more of each are so
pub zip_more : {X Y : Type 0} (R : X → Y → Type 0) (xs : List X) (ys : List Y) (x : X) (y : Y) → AllZip R xs ys → R x y → AllZip R (xs ++ x ∷ []) (ys ++ y ∷ [])
zip_more R [] [] x y all is = (is, tt)
zip_more R [] (z ∷ ys) x y all is = absurd all
zip_more R (z ∷ xs) [] x y all is = absurd all
zip_more R (w ∷ xs) (z ∷ ys) x y all is = (all.0, zip_more R xs ys x y all.1 is)

-- so they are of one item of a list more
pub zip_take : {X Y : Type 0} (R : X → Y → Type 0) (xs : List X) (ys : List Y) (i : ℕ) (x : X) (y : Y) → i < length xs → x ≡ get_or xs i x → AllZip R (take i xs) ys → R x y
    → AllZip R (take (i + 1) xs) (ys ++ y ∷ [])
zip_take {X} R xs ys i x y lt is all one =
    subst (λ (zs : List X). AllZip R zs (ys ++ y ∷ [])) (ap (λ (z : X). take i xs ++ z ∷ []) is ∙ sym (take_more xs i x lt)) (zip_more R (take i xs) ys x y all one)
