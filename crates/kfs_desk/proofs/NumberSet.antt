-- The numbers of clients as a set.
use Rattle.std.proofs.Common.{◌≡◌, ℕ, ◌==◌, ◌||◌, not, Bool, true, false, cond, List, [], ◌∷◌, ◌++◌, refl, sym, ap, ◌∙◌}
use Rattle.std.specs.List.{list_any}
use Rattle.std.specs.Ordering.{nat_cmp}
use Rattle.std.specs.Cmp.{unsigned_tied}
use Rattle.std.specs.BTreeSet.{BTreeSet, Updates, contains}
use Rattle.std.proofs.lemmas.List.Folds.{list_any-append}
use Rattle.kfs_model.specs.Access.{Client}
use Rattle.kfs_desk.proofs.Openings.{is_twice}

abbrev pub AreNumbersOf : List Client → BTreeSet ℕ → Type 0
AreNumbersOf clients numbers = (n : ℕ) → contains nat_cmp numbers n ≡ list_any (λ (row : Client). row.number == n) clients

-- whether an insert adds the client's number tells whether it is new
pub added_if_new : (earlier : List Client) (client : Client) (numbers : BTreeSet ℕ) {number : ℕ} {added : Bool} → AreNumbersOf earlier numbers → number ≡ client.number → added ≡ not (contains nat_cmp numbers number) → added ≡ not (is_twice earlier client)
added_if_new earlier client numbers are is added = added ∙ ap (λ n. not (contains nat_cmp numbers n)) is ∙ ap not (are client.number)

-- one client more
pub number_more : (clients : List Client) (last : Client) (old new : BTreeSet ℕ) → AreNumbersOf clients old → Updates nat_cmp old new last.number true → AreNumbersOf (clients ++ last ∷ []) new
number_more clients last old new are updates n =
    updates.0 n
    ∙ ap (λ b. cond b true (contains nat_cmp old n)) (unsigned_tied last.number n)
    ∙ ap (cond (last.number == n) true) (are n)
    ∙ either (last.number == n) (list_any (λ (row : Client). row.number == n) clients)
    ∙ sym (list_any-append (λ (row : Client). row.number == n) clients (last ∷ []))
  where
    either : (same earlier : Bool) → cond same true earlier ≡ (earlier || (same || false))
    either true true = refl
    either true false = refl
    either false true = refl
    either false false = refl
