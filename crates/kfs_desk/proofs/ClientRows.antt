-- One client more: its number is new, and it is in range.
use Rattle.std.proofs.Common.{◌≡◌, ℕ, ◌==◌, Bool, true, false, List, [], ◌∷◌, ◌++◌, refl, sym}
use Rattle.std.specs.List.{list_any, AllByRecursion}
use Rattle.std.proofs.lemmas.Bool.{eqb-true, eq-eqb, and_from, not_from_false, or_from, or_parts}
use Rattle.kfs_model.specs.Access.{Client}
use Rattle.kfs_model.specs.CleanStep.{IsClient}
use Rattle.kfs_model.proofs.ClientNumbers.{numbers_of, first_alone, rest_distinct}
use Rattle.kfs_mode.specs.Clients.{ClientsAreDistinct}

turned : (a b : ℕ) → (a == b) ≡ false → (b == a) ≡ false
turned a b other = by (b == a) refl
  where
    by : (same : Bool) → (b == a) ≡ same → same ≡ false
    by true same = cc (eq-eqb a b (sym (eqb-true b a same)), other)
    by false apart = refl

none_more : (rows : List Client) (last : Client) (number : ℕ) → list_any (λ other. other == number) (numbers_of rows) ≡ false → (last.number == number) ≡ false → list_any (λ other. other == number) (numbers_of (rows ++ last ∷ [])) ≡ false
none_more [] last number none other = or_from _ _ other refl
none_more (row ∷ rows) last number none other =
    let parts = or_parts (row.number == number) (list_any (λ other. other == number) (numbers_of rows)) none in
    or_from _ _ parts.0 (none_more rows last number parts.1 other)

pub distinct_more : (rows : List Client) (last : Client) → ClientsAreDistinct rows → list_any (λ (row : Client). row.number == last.number) rows ≡ false → ClientsAreDistinct (rows ++ last ∷ [])
distinct_more [] last distinct none = refl
distinct_more (row ∷ rows) last distinct none =
    let parts = or_parts (row.number == last.number) (list_any (λ (row : Client). row.number == last.number) rows) none in
    and_from _ _ (not_from_false _ (none_more rows last row.number (first_alone row rows distinct) (turned row.number last.number parts.0))) (distinct_more rows last (rest_distinct row rows distinct) parts.1)

pub in_range_more : (rows : List Client) (last : Client) → AllByRecursion IsClient rows → IsClient last → AllByRecursion IsClient (rows ++ last ∷ [])
in_range_more [] last all is = (is, tt)
in_range_more (row ∷ rows) last all is = (all.0, in_range_more rows last all.1 is)
