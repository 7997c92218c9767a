-- A client whose grant overlaps an earlier one's, seen from the numbers that are granted.
use Rattle.std.proofs.Common.{◌≡◌, ℕ, ◌+◌, ◌≤◌, ◌&&◌, ◌||◌, not, Bool, true, false, ◌↔◌, List, [], ◌∷◌, ◌++◌, replicate, min, max, nat_le, refl, sym, ap, ◌∙◌, arith}
use Rattle.std.specs.Prelude.{IsTrue}
use Rattle.std.specs.List.{list_any}
use Rattle.std.proofs.lemmas.Bool.{and_from, and_parts, leb-true, le-leb, both_ways, false_from_ne_true, true_from_ne_false, not-true, not_from_false, or_from, or_parts}
use Rattle.std.proofs.lemmas.List.{get_or-replicate}
use Rattle.std.proofs.lemmas.List.Folds.{list_any-append}
use Rattle.kfs_model.specs.Access.{Client, is_granted}
use Rattle.kfs_model.specs.CleanStep.{IsClient}
use Rattle.kfs_model.specs.Limits.{greatest_number}
use Rattle.kfs_image.specs.Tier.Places.{is_free_in}
use Rattle.kfs_desk.specs.Grants.{AreUngranted, MarksGranted}
use Rattle.kfs_desk.specs.Opening.{do_overlap}

-- some client may give the number to a new node
abbrev pub is_granted_by : List Client → ℕ → Bool
is_granted_by clients n = list_any (λ (row : Client). is_granted row n) clients

-- the clients' grants have the numbers that aren't listed as ungranted
abbrev pub AreGrantsOf : List Client → (ungranted : List Bool) → Type 0
AreGrantsOf clients ungranted = (n : ℕ) → n ≤ greatest_number → is_free_in ungranted n ≡ not (is_granted_by clients n)

pub none_granted : AreGrantsOf [] (replicate (greatest_number + 1) true)
none_granted n within = get_or-replicate (greatest_number + 1) n true false (omega arith)

-- one grant more
pub granted_more : (clients : List Client) (last : Client) (old new : List Bool) → AreGrantsOf clients old → MarksGranted old last.first last.last new → AreGrantsOf (clients ++ last ∷ []) new
granted_more clients last old new are grants n within =
    grants n ∙ ap (λ b. b && not (is_granted last n)) (are n within) ∙ both (is_granted_by clients n) (is_granted last n)
    ∙ ap not (sym (list_any-append (λ (row : Client). is_granted row n) clients (last ∷ [])))
  where
    both : (a b : Bool) → (not a && not b) ≡ not (a || (b || false))
    both true b = refl
    both false true = refl
    both false false = refl

-- ---- a number that two grants share

module _ (client : Client) where
  apart : (row : Client) (n : ℕ) → do_overlap row client ≡ false → client.first ≤ n → n ≤ client.last → is_granted row n ≡ false
  apart row n none first last = false_from_ne_true (is_granted row n) (λ granted.
      let parts = and_parts (nat_le row.first n) (nat_le n row.last) granted in
      let above = leb-true row.first n parts.0 in
      let below = leb-true n row.last parts.1 in
      both_ways _ none (le-leb (max row.first client.first) (min row.last client.last) (omega arith)))

  pub all_apart : (rows : List Client) (n : ℕ) → list_any (λ (row : Client). do_overlap row client) rows ≡ false → client.first ≤ n → n ≤ client.last → is_granted_by rows n ≡ false
  all_apart [] n none first last = refl
  all_apart (row ∷ rows) n none first last =
      let parts = or_parts (do_overlap row client) (list_any (λ (other : Client). do_overlap other client) rows) none in
      or_from _ _ (apart row n parts.0 first last) (all_apart rows n parts.1 first last)

  alone : (row : Client) → ((n : ℕ) → client.first ≤ n → n ≤ client.last → is_granted row n ≡ false) → do_overlap row client ≡ false
  alone row each = false_from_ne_true (do_overlap row client) (λ overlap.
      let shared = leb-true (max row.first client.first) (min row.last client.last) overlap in
      let n = max row.first client.first in
      both_ways _ (each n (omega arith) (omega arith)) (and_from _ _ (le-leb row.first n (omega arith)) (le-leb n row.last (omega arith))))

  pub all_alone : (rows : List Client) → ((n : ℕ) → client.first ≤ n → n ≤ client.last → is_granted_by rows n ≡ false) → list_any (λ (row : Client). do_overlap row client) rows ≡ false
  all_alone [] each = refl
  all_alone (row ∷ rows) each =
      let parts : (n : ℕ) → client.first ≤ n → n ≤ client.last → (is_granted row n ≡ false) × (is_granted_by rows n ≡ false) = λ n first last. or_parts (is_granted row n) (is_granted_by rows n) (each n first last) in
      or_from _ _ (alone row (λ n first last. (parts n first last).0)) (all_alone rows (λ n first last. (parts n first last).1))

-- a test of whether its numbers are ungranted tells of an overlap
module _ (clients : List Client) (ungranted : List Bool) (client : Client) (are : AreGrantsOf clients ungranted) (in_range : IsClient client) where
  within : (n : ℕ) → n ≤ client.last → n ≤ greatest_number
  within n last =
      let parts = and_parts (nat_le 1 client.first) (nat_le client.last greatest_number) in_range.grant in
      let below = leb-true client.last greatest_number parts.1 in
      omega arith

  pub overlap_from_granted : (alone : Bool) → (IsTrue alone ↔ AreUngranted ungranted client.first client.last) → alone ≡ false → list_any (λ (row : Client). do_overlap row client) clients ≡ true
  overlap_from_granted alone tells not_alone = true_from_ne_false _ (λ none.
      both_ways alone not_alone (tells.1 (λ n first last. are n (within n last) ∙ not_from_false _ (all_apart client clients n none first last))))

  pub none_from_ungranted : AreUngranted ungranted client.first client.last → list_any (λ (row : Client). do_overlap row client) clients ≡ false
  none_from_ungranted free = all_alone client clients (λ n first last. not-true _ (sym (are n (within n last)) ∙ free n first last))
