-- Lists that grow by the parts of one row, or of one number, after another.
use Rattle.std.proofs.Common.{◌≡◌, ℕ, suc, ◌+◌, ◌-◌, ◌<◌, ◌≤◌, List, [], ◌∷◌, ◌++◌, length, map, drop, get_or, append_assoc, append-nil, refl, sym, ap, ◌∙◌, arith}
use Rattle.std.specs.List.{flat_map}
use Rattle.std.proofs.lemmas.List.{drop_all, map-append}
use Rattle.kfs_model.specs.Placement.{numbers_from, below}
use Rattle.kfs_image.proofs.TierLemmas.TierLists.{rest_at}

numbers_more : (n end : ℕ) → n < end → numbers_from n (end - n) ≡ n ∷ numbers_from (n + 1) (end - (n + 1))
numbers_more n end less = let one : end - n ≡ suc (end - (n + 1)) = omega arith in ap (numbers_from n) one

numbers_none : (n end : ℕ) → end ≤ n → numbers_from n (end - n) ≡ []
numbers_none n end over = let none : end - n ≡ 0 = omega arith in ap (numbers_from n) none

module _ {X Y : Type 0} (part : X → Y) (each : ℕ → Y) where
  pub none_pushed : (xs : List X) (end : ℕ) → map part xs ++ map each (numbers_from 0 (end - 0)) ≡ map part xs ++ map each (below end)
  none_pushed xs end = let whole : end - 0 ≡ end = omega arith in ap (λ count. map part xs ++ map each (numbers_from 0 count)) whole

  pub one_pushed : (old new : List X) (x : X) (n end : ℕ) (all : List Y) → n < end → new ≡ old ++ x ∷ [] → part x ≡ each n
      → map part old ++ map each (numbers_from n (end - n)) ≡ all → map part new ++ map each (numbers_from (n + 1) (end - (n + 1))) ≡ all
  one_pushed old new x n end all less is alike so_far =
      ap (λ xs. map part xs ++ map each (numbers_from (n + 1) (end - (n + 1)))) is
      ∙ ap (λ ys. ys ++ map each (numbers_from (n + 1) (end - (n + 1)))) (map-append part old (x ∷ []))
      ∙ append_assoc (map part old) (part x ∷ []) (map each (numbers_from (n + 1) (end - (n + 1))))
      ∙ ap (λ y. map part old ++ y ∷ map each (numbers_from (n + 1) (end - (n + 1)))) alike
      ∙ ap (λ ns. map part old ++ map each ns) (sym (numbers_more n end less))
      ∙ so_far

  pub all_pushed : (xs : List X) (n end : ℕ) (all : List Y) → end ≤ n → map part xs ++ map each (numbers_from n (end - n)) ≡ all → map part xs ≡ all
  all_pushed xs n end all over so_far = sym (ap (λ ns. map part xs ++ map each ns) (numbers_none n end over) ∙ append-nil (map part xs)) ∙ so_far

module _ {X Y Z : Type 0} (part : X → Y) (list : Z → List Y) where
  pub one_listed : (old new : List X) (rows : List Z) (i : ℕ) (row : Z) (all : List Y) → i < length rows → row ≡ get_or rows i row → map part new ≡ map part old ++ list row
      → map part old ++ flat_map list (drop i rows) ≡ all → map part new ++ flat_map list (drop (i + 1) rows) ≡ all
  one_listed old new rows i row all less here is so_far =
      ap (λ ys. ys ++ flat_map list (drop (i + 1) rows)) is
      ∙ append_assoc (map part old) (list row) (flat_map list (drop (i + 1) rows))
      ∙ ap (λ rest. map part old ++ flat_map list rest) (sym (rest_at rows i row less here))
      ∙ so_far

  pub all_listed : (xs : List X) (rows : List Z) (i : ℕ) (all : List Y) → length rows ≤ i → map part xs ++ flat_map list (drop i rows) ≡ all → map part xs ≡ all
  all_listed xs rows i all past so_far = sym (ap (λ rest. map part xs ++ flat_map list rest) (drop_all i rows past) ∙ append-nil (map part xs)) ∙ so_far

pub flat_mapped : {X Y Z : Type 0} (list : Y → List Z) (view : X → Y) (xs : List X) → flat_map (λ x. list (view x)) xs ≡ flat_map list (map view xs)
flat_mapped list view [] = refl
flat_mapped list view (x ∷ xs) = ap (λ rest. list (view x) ++ rest) (flat_mapped list view xs)
