-- The elements of a list, and of lists that are made of others.
use Rattle.std.proofs.Common.{◌≡◌, List, [], ◌∷◌, ◌++◌, map, ◌⊎◌, inl, inr, ⊎_elim, refl, sym, ap, subst}
use Rattle.std.specs.List.{flat_map, AllByRecursion}

-- x is an element
abbrev pub Among : {X : Type 0} → X → List X → Type 0
Among x [] = ⊥
Among x (y ∷ ys) = (x ≡ y) ⊎ Among x ys

module _ {X : Type 0} where
  -- what holds of all holds of each
  pub among_all : (P : X → Type 0) (xs : List X) (x : X) → AllByRecursion P xs → Among x xs → P x
  among_all P [] x all among = absurd among
  among_all P (y ∷ ys) x all among = ⊎_elim (λ here. subst P (sym here) all.0) (λ later. among_all P ys x all.1 later) among

  pub among_left : (xs ys : List X) (x : X) → Among x xs → Among x (xs ++ ys)
  among_left [] ys x among = absurd among
  among_left (y ∷ xs) ys x among = ⊎_elim (λ here. inl here) (λ later. inr (among_left xs ys x later)) among

  pub among_right : (xs ys : List X) (x : X) → Among x ys → Among x (xs ++ ys)
  among_right [] ys x among = among
  among_right (y ∷ xs) ys x among = inr (among_right xs ys x among)

  pub among_either : (xs ys : List X) (x : X) → Among x (xs ++ ys) → Among x xs ⊎ Among x ys
  among_either [] ys x among = inr among
  among_either (y ∷ xs) ys x among = ⊎_elim (λ here. inl (inl here)) (λ later. ⊎_elim (λ front. inl (inr front)) (λ back. inr back) (among_either xs ys x later)) among

module _ {X Y : Type 0} where
  pub among_map : (f : X → Y) (xs : List X) (x : X) → Among x xs → Among (f x) (map f xs)
  among_map f [] x among = absurd among
  among_map f (y ∷ ys) x among = ⊎_elim (λ here. inl (ap f here)) (λ later. inr (among_map f ys x later)) among

  pub from_map : (f : X → Y) (xs : List X) (y : Y) → Among y (map f xs) → (x : X) × Among x xs × (y ≡ f x)
  from_map f [] y among = absurd among
  from_map f (x ∷ xs) y among = ⊎_elim (λ here. (x, inl refl, here)) (λ later. let (other, there, is) = from_map f xs y later in (other, inr there, is)) among

  pub among_flat_map : (f : X → List Y) (xs : List X) (x : X) (y : Y) → Among x xs → Among y (f x) → Among y (flat_map f xs)
  among_flat_map f [] x y among there = absurd among
  among_flat_map f (z ∷ zs) x y among there =
      ⊎_elim (λ here. among_left (f z) (flat_map f zs) y (subst (λ w. Among y (f w)) here there)) (λ later. among_right (f z) (flat_map f zs) y (among_flat_map f zs x y later there)) among

  pub from_flat_map : (f : X → List Y) (xs : List X) (y : Y) → Among y (flat_map f xs) → (x : X) × Among x xs × Among y (f x)
  from_flat_map f [] y among = absurd among
  from_flat_map f (x ∷ xs) y among =
      ⊎_elim (λ front. (x, inl refl, front)) (λ back. let (other, there, is) = from_flat_map f xs y back in (other, inr there, is)) (among_either (f x) (flat_map f xs) y among)
