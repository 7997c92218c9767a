-- Lists of pairs.
use Rattle.std.proofs.Common.{◌≡◌, ℕ, zero, suc, ◌+◌, List, [], ◌∷◌, ◌++◌, length, set, sym, refl, ap, subst, arith}
use Rattle.std.proofs.Common.{◌∙◌, ◌<◌, All, map, drop, slice_index_or}
use Rattle.std.proofs.lemmas.List.{drop-set-lt}
use Rattle.std.specs.List.{concat, AllByRecursion}
use Rattle.std.proofs.lemmas.List.Elements.{All-from_recursion, recursion_from_All}
use Rattle.kfs_shared.specs.Turns.Lists.{StartsWith}
use Rattle.kfs_shared.proofs.TurnsLemmas.Lists.{starts_trans}
use Rattle.kfs_shared.specs.Crew.Crew.{Pairs, Achieved}

-- two parts side by side
pub pairs_both : {X Y : Type 0} (P : X → Y → Type 0) (xs us : List X) (ys vs : List Y) → Pairs P xs ys → Pairs P us vs → Pairs P (xs ++ us) (ys ++ vs)
pairs_both P [] us [] vs a b = b
pairs_both P [] us (y ∷ ys) vs a b = absurd a
pairs_both P (x ∷ xs) us [] vs a b = absurd a
pairs_both P (x ∷ xs) us (y ∷ ys) vs a b = (a.0, pairs_both P xs us ys vs a.1 b)

-- one alone
pub pairs_one : {X : Type 0} (P : X → X → Type 0) (xs : List X) (x y : X) → xs ≡ x ∷ [] → P x y → Pairs P xs (set xs 0 y)
pairs_one P xs x y one is = subst (λ us. Pairs P us (set us 0 y)) (sym one) (is, tt)

pub pairs_length : {X Y : Type 0} (P : X → Y → Type 0) (xs : List X) (ys : List Y) → Pairs P xs ys → length ys ≡ length xs
pairs_length P [] [] h = refl
pairs_length P [] (y ∷ ys) h = absurd h
pairs_length P (x ∷ xs) [] h = absurd h
pairs_length P (x ∷ xs) (y ∷ ys) h = let e = pairs_length P xs ys h.1 in omega arith

pairs_each : {X Y : Type 0} (Q : X → Type 0) (R : X → Y → Type 0) (S : Y → Type 0) → ((x : X) (y : Y) → Q x → R x y → S y) → (xs : List X) (ys : List Y) → Pairs R xs ys → AllByRecursion Q xs → AllByRecursion S ys
pairs_each Q R S f [] [] h q = tt
pairs_each Q R S f [] (y ∷ ys) h q = absurd h
pairs_each Q R S f (x ∷ xs) [] h q = absurd h
pairs_each Q R S f (x ∷ xs) (y ∷ ys) h q = (f x y q.0 h.0, pairs_each Q R S f xs ys h.1 q.1)

-- what the first of each two is, with what holds of both, says what the second is
pub pairs_all : {X Y : Type 0} (Q : X → Type 0) (R : X → Y → Type 0) (S : Y → Type 0) → ((x : X) (y : Y) → Q x → R x y → S y) → (xs : List X) (ys : List Y) → Pairs R xs ys → All Q xs → All S ys
pairs_all Q R S f xs ys h q = All-from_recursion S ys (pairs_each Q R S f xs ys h (recursion_from_All Q xs q))

module _ {X V W : Type 0} (task : X → V) (seen : X → List W) (own : X → List ℕ) (Q : X → Type 0) (R : X → X → Type 0) (P : List W → List W → List ℕ → V → V → Type 0) (from upto : List W) (f : (x y : X) → Q x → R x y → P from (seen y) (own y) (task x) (task y)) where
  achieved_each : (xs ys : List X) → Pairs R xs ys → AllByRecursion Q xs → AllByRecursion (λ y. StartsWith upto (seen y)) ys → Achieved P from upto (concat (map own ys)) (map task xs) (map task ys)
  achieved_each [] [] h q s = refl
  achieved_each [] (y ∷ ys) h q s = absurd h
  achieved_each (x ∷ xs) [] h q s = absurd h
  achieved_each (x ∷ xs) (y ∷ ys) h q s = (seen y, own y, concat (map own ys), refl, s.0, f x y q.0 h.0, achieved_each xs ys h.1 q.1 s.1)

  pub achieved : (xs ys : List X) (zs : List V) (all : List ℕ) → Pairs R xs ys → All Q xs → All (λ y. StartsWith upto (seen y)) ys → zs ≡ map task ys → all ≡ concat (map own ys) → Achieved P from upto all (map task xs) zs
  achieved xs ys zs all h q s same owns = subst (λ z. Achieved P from upto all (map task xs) z) (sym same)
      (subst (λ ks. Achieved P from upto ks (map task xs) (map task ys)) (sym owns) (achieved_each xs ys h (recursion_from_All Q xs q) (recursion_from_All (λ y. StartsWith upto (seen y)) ys s)))

-- one met, and then those behind it
pub seen_next : {X W : Type 0} (seen : X → List W) (upto mid : List W) (xs : List X) (k : ℕ) (x y : X) → StartsWith upto mid → StartsWith mid (seen x) → drop k xs ≡ x ∷ drop (k + 1) xs → All (λ w. StartsWith upto (seen w)) (drop (k + 1) (set xs k y)) → All (λ w. StartsWith upto (seen w)) (drop k xs)
seen_next {X} {W} seen upto mid xs k x y on met is later =
    let P : X → Type 0 = λ w. StartsWith upto (seen w) in
    let rest : All P (drop (k + 1) xs) = subst (All P) (drop-set-lt (k + 1) xs k y (omega arith)) later in
    subst (All P) (sym is) (All-from_recursion P (x ∷ drop (k + 1) xs) (starts_trans upto mid (seen x) on met, recursion_from_All P (drop (k + 1) xs) rest))

-- what it keeps of the one that is set, it keeps of all
pub map_same : {X V : Type 0} (f : X → V) (xs : List X) (k : ℕ) (x y : X) (more : List X) → drop k xs ≡ x ∷ more → f y ≡ f x → map f (set xs k y) ≡ map f xs
map_same f [] zero x y more is e = let n = ap length is in absurd (omega arith)
map_same f [] (suc k) x y more is e = let n = ap length is in absurd (omega arith)
map_same f (v ∷ vs) zero x y more is e = ap (λ z. z ∷ map f vs) (e ∙ ap f (sym (ap (λ l. slice_index_or l 0 v) is)))
map_same f (v ∷ vs) (suc k) x y more is e = ap (λ z. f v ∷ z) (map_same f vs k x y more is e)

-- from a place on, the list is what stands there and the rest
pub drop_at : {X : Type 0} (xs : List X) (k : ℕ) (d : X) → k < length xs → drop k xs ≡ slice_index_or xs k d ∷ drop (k + 1) xs
drop_at [] k d low = absurd (omega arith)
drop_at (x ∷ xs) zero d low = refl
drop_at (x ∷ xs) (suc k) d low = drop_at xs k d (omega arith) ∙ ap (λ n. slice_index_or xs k d ∷ drop n (x ∷ xs)) (next k)
  where
    next : (k : ℕ) → suc (k + 1) ≡ suc k + 1
    next k = omega arith

pub all_later : {X W : Type 0} (seen : X → List W) (upto mid : List W) (xs : List X) → StartsWith upto mid → All (λ x. StartsWith mid (seen x)) xs → All (λ x. StartsWith upto (seen x)) xs
all_later {X} {W} seen upto mid xs on a = All-from_recursion (λ x. StartsWith upto (seen x)) xs (go xs (recursion_from_All (λ x. StartsWith mid (seen x)) xs a))
  where
    go : (xs : List X) → AllByRecursion (λ x. StartsWith mid (seen x)) xs → AllByRecursion (λ x. StartsWith upto (seen x)) xs
    go [] a = tt
    go (x ∷ xs) a = (starts_trans upto mid (seen x) on a.0, go xs a.1)

pub map_then : {X V : Type 0} (f : X → V) (xs zs : List X) (k : ℕ) (d y : X) → k < length xs → f y ≡ f (slice_index_or xs k d) → map f zs ≡ map f (set xs k y) → map f zs ≡ map f xs
map_then f xs zs k d y low e then = then ∙ map_same f xs k (slice_index_or xs k d) y (drop (k + 1) xs) (drop_at xs k d low) e

-- what holds of each by what it maps to holds of others that map to the same
pub all_mapped : {X V : Type 0} (f : X → V) (P : V → Type 0) (xs ys : List X) → map f ys ≡ map f xs → All (λ x. P (f x)) xs → All (λ y. P (f y)) ys
all_mapped {X} {V} f P xs ys same a = All-from_recursion (λ y. P (f y)) ys (go xs ys same (recursion_from_All (λ x. P (f x)) xs a))
  where
    go : (xs ys : List X) → map f ys ≡ map f xs → AllByRecursion (λ x. P (f x)) xs → AllByRecursion (λ y. P (f y)) ys
    go xs [] same a = tt
    go [] (y ∷ ys) same a = let n = ap length same in absurd (omega arith)
    go (x ∷ xs) (y ∷ ys) same a = (subst P (sym (ap (λ l. slice_index_or l 0 (f x)) same)) a.0, go xs ys (ap (drop 1) same) a.1)
