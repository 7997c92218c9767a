-- The finding is the least number of the least rule that is broken.
use Rattle.std.proofs.Common.{◌≡◌, ℕ, ◌<◌, ◌≤◌, ◌==◌, ◌&&◌, ◌||◌, not, Bool, true, false, cond, T, List, [], ◌∷◌, Option, Some, None, min, refl, sym, ap, subst, ◌∙◌, ⊎_elim, arith, eqb-true, eq-eqb}
use Rattle.std.specs.declared.cmp.Ordering.{Ordering}
use Rattle.std.specs.declared.cmp.Ordering.TheVariants.{Less, Equal, Greater}
use Rattle.std.specs.List.{list_any}
use Rattle.std.specs.Ordering.{is_eq, is_lt, nat_cmp}
use Rattle.std.specs.FinMap.Entries.{find, is_sorted, below_all}
use Rattle.std.proofs.lemmas.Bool.{or_cases, or_left, or_right, false_from_ne_true, cases_lt}
use Rattle.std.proofs.lemmas.Cmp.{ranked}
use Rattle.kfs_model.specs.Table.{numbers, get}
use Rattle.kfs_model.proofs.Tables.{left_part, right_part, find_head, find_behind}
use Rattle.kfs_model.specs.Device.RawImage.{RawImage}
use Rattle.kfs_model.specs.Device.Rules.{Test, rules}
use Rattle.kfs_model.specs.Device.Finding.{Finding, fails_at, is_broken_at, IsLeastBroken, least_of, least_failed, finding_from, finding_of, IsWellFormed}

-- ---- the tests of one rule

abbrev fails : List Test → ℕ → Bool
fails tests number = list_any (fails_at number) tests

-- fails there, and at no lower number
abbrev FailsFirst : (ℕ → Bool) → ℕ → Type 0
FailsFirst fails_there least = (fails_there least ≡ true) × ((number : ℕ) → fails_there number ≡ true → least ≤ number)

-- what the least failure of some tests says
abbrev FailsAs : (ℕ → Bool) → Option ℕ → Type 0
FailsAs fails_there None = (number : ℕ) → fails_there number ≡ false
FailsAs fails_there (Some least) = FailsFirst fails_there least

lesser : (a b n : ℕ) → (a ≤ n) → min a b ≤ n
lesser a b n below = grind arith

lesser_too : (a b n : ℕ) → (b ≤ n) → min a b ≤ n
lesser_too a b n below = grind arith

pub failures_are : (tests : List Test) → FailsAs (fails tests) (least_failed tests)
failures_are [] = λ number. refl
failures_are (t ∷ ts) = at t.holds (least_failed ts) (failures_are ts)
  where
    one_of : (rest : ℕ → Bool) (other : ℕ) → FailsFirst rest other → (t.number == min t.number other) || rest (min t.number other) ≡ true
    one_of rest other first =
        ⊎_elim
        (λ below. let same : t.number ≡ min t.number other = omega arith in or_left (t.number == min t.number other) _ (eq-eqb t.number (min t.number other) same))
        (λ above. let same : other ≡ min t.number other = omega arith in or_right (t.number == min t.number other) _ (subst (λ n. rest n ≡ true) same first.0))
        (cases_lt t.number other)

    at : (holds : Bool) (least : Option ℕ) → FailsAs (fails ts) least
        → FailsAs (λ number. (not holds && (t.number == number)) || fails ts number) (cond holds least (Some (least_of t.number least)))
    at true None rest = rest
    at true (Some least) rest = rest
    at false None rest = (
      or_left _ _ (eq-eqb t.number t.number refl),
      λ number any. ⊎_elim (λ here. let same = eqb-true t.number number here in omega arith) (λ later. let none = rest number in cc) (or_cases _ _ any),
    )
    at false (Some least) rest = (
      one_of (fails ts) least rest,
      λ number any. ⊎_elim (λ here. let same = eqb-true t.number number here in lesser t.number least number (omega arith)) (λ later. lesser_too t.number least number (rest.1 number later)) (or_cases _ _ any),
    )

-- ---- one rule after another

is_below : (a b : ℕ) → T (is_lt (nat_cmp a b)) → a < b
is_below a b less = at (nat_cmp a b) refl less
  where
    at : (o : Ordering) → o ≡ nat_cmp a b → T (is_lt o) → a < b
    at Less is below = ranked a b Less is
    at Equal is below = absurd below
    at Greater is below = absurd below

module _ (raw : RawImage) where
  abbrev broken_there : Option (RawImage → List Test) → ℕ → Bool
  broken_there found number = elim found [ None ↦ false | Some tests ↦ fails (tests raw) number ]

  -- one of these rules is broken at the number
  abbrev broken_by : List (ℕ × (RawImage → List Test)) → (rule number : ℕ) → Bool
  broken_by es rule number = broken_there (find nat_cmp rule es) number

  -- a rule that is broken is found above those before it
  broken_above : (k : ℕ) (es : List (ℕ × (RawImage → List Test))) → T (below_all nat_cmp k es) → (rule number : ℕ) → broken_by es rule number ≡ true → k < rule
  broken_above k [] below rule number broken = cc
  broken_above k (e ∷ es) below rule number broken = at (nat_cmp rule e.0) refl (broken_above k es (right_part _ _ below) rule number) broken
    where
      at : (o : Ordering) → nat_cmp rule e.0 ≡ o → (broken_by es rule number ≡ true → k < rule) → broken_there (cond (is_eq o) (Some e.1) (find nat_cmp rule es)) number ≡ true → k < rule
      at Less tie rest is = rest is
      at Equal tie rest is = subst (λ n. k < n) (sym (numbers.exact rule e.0 tie)) (is_below k e.0 (left_part _ _ below))
      at Greater tie rest is = rest is

  record FirstBroken (broken_at : ℕ → ℕ → Bool) (finding : Finding) : Type 0 where
    broken : broken_at finding.rule finding.number ≡ true
    least_rule : (rule number : ℕ) → broken_at rule number ≡ true → finding.rule ≤ rule
    least_number : (number : ℕ) → broken_at finding.rule number ≡ true → finding.number ≤ number

  abbrev Found : (ℕ → ℕ → Bool) → Option Finding → Type 0
  Found broken_at None = (rule number : ℕ) → broken_at rule number ≡ false
  Found broken_at (Some finding) = FirstBroken broken_at finding

  -- broken by the first rule, or by a later one
  cases_broken : (e : ℕ × (RawImage → List Test)) (es : List (ℕ × (RawImage → List Test))) (rule number : ℕ) {P : Type 0} → broken_by (e ∷ es) rule number ≡ true
      → (rule ≡ e.0 → fails (e.1 raw) number ≡ true → P) → (broken_by es rule number ≡ true → P) → P
  cases_broken e es rule number {P} broken here later = at (nat_cmp rule e.0) refl broken
    where
      at : (o : Ordering) → nat_cmp rule e.0 ≡ o → broken_there (cond (is_eq o) (Some e.1) (find nat_cmp rule es)) number ≡ true → P
      at Less tie is = later is
      at Equal tie is = here (numbers.exact rule e.0 tie) is
      at Greater tie is = later is

  broken_behind : (e : ℕ × (RawImage → List Test)) (es : List (ℕ × (RawImage → List Test))) → T (is_sorted nat_cmp (e ∷ es)) → (rule number : ℕ) → broken_by es rule number ≡ true → broken_by (e ∷ es) rule number ≡ true
  broken_behind e es sorted rule number broken = at (find nat_cmp rule es) refl broken
    where
      at : (o : Option (RawImage → List Test)) → find nat_cmp rule es ≡ o → broken_there o number ≡ true → broken_by (e ∷ es) rule number ≡ true
      at None is none = cc
      at (Some tests) is some = ap (λ o. broken_there o number) (find_behind numbers rule tests e es sorted is) ∙ some

  finding_from_is : (es : List (ℕ × (RawImage → List Test))) → T (is_sorted nat_cmp es) → Found (broken_by es) (finding_from raw es)
  finding_from_is [] sorted = λ rule number. refl
  finding_from_is (e ∷ es) sorted = at (least_failed (e.1 raw)) (failures_are (e.1 raw)) (finding_from_is es (right_part _ _ sorted))
    where
      later : (o : Option Finding) → ((number : ℕ) → fails (e.1 raw) number ≡ false) → Found (broken_by es) o → Found (broken_by (e ∷ es)) o
      later None none rest = λ rule number. false_from_ne_true _ (λ broken. cases_broken e es rule number broken (λ same fails_there. let holds = none number in cc) (λ behind. let holds = rest rule number in cc))
      later (Some finding) none rest = record {
        broken = broken_behind e es sorted finding.rule finding.number rest.broken;
        least_rule = λ rule number broken. cases_broken e es rule number broken (λ same fails_there. let holds = none number in cc) (λ behind. rest.least_rule rule number behind);
        least_number = λ number broken. cases_broken e es finding.rule number broken (λ same fails_there. let holds = none number in cc) (λ behind. rest.least_number number behind);
      }

      at : (o : Option ℕ) → FailsAs (fails (e.1 raw)) o → Found (broken_by es) (finding_from raw es) → Found (broken_by (e ∷ es)) (elim o [ None ↦ finding_from raw es | Some number ↦ Some (record { rule = e.0; number = number }) ])
      at None none rest = later (finding_from raw es) none rest
      at (Some least) first rest = record {
        broken = ap (λ o. broken_there o least) (find_head numbers e es) ∙ first.0;
        least_rule = λ rule number broken. cases_broken e es rule number broken (λ same fails_there. omega arith) (λ behind. let above = broken_above e.0 es (left_part _ _ sorted) rule number behind in omega arith);
        least_number = λ number broken. cases_broken e es e.0 number broken (λ same fails_there. first.1 number fails_there)
            (λ behind. let above = broken_above e.0 es (left_part _ _ sorted) e.0 number behind in absurd (omega arith));
      }

  -- ---- all rules

  found_is : Found (is_broken_at raw) (finding_of raw)
  unfolding get finding_of
  found_is = finding_from_is rules.entries tt

  pub finding_is_least : (finding : Finding) → finding_of raw ≡ Some finding → IsLeastBroken raw finding
  finding_is_least finding is =
      let first : FirstBroken (is_broken_at raw) finding = subst (Found (is_broken_at raw)) is found_is in
      record { broken = first.broken; least_rule = first.least_rule; least_number = first.least_number }

  pub none_is_broken : IsWellFormed raw → (rule number : ℕ) → is_broken_at raw rule number ≡ false
  none_is_broken none = subst (Found (is_broken_at raw)) none found_is

  pub one_least : (finding other : Finding) → IsLeastBroken raw finding → IsLeastBroken raw other → finding ≡ other
  one_least finding other least too =
      let up : finding.rule ≤ other.rule = least.least_rule other.rule other.number too.broken in
      let down : other.rule ≤ finding.rule = too.least_rule finding.rule finding.number least.broken in
      let same_rule : finding.rule ≡ other.rule = omega arith in
      let ahead : finding.number ≤ other.number = least.least_number other.number (subst (λ rule. is_broken_at raw rule other.number ≡ true) (sym same_rule) too.broken) in
      let behind : other.number ≤ finding.number = too.least_number finding.number (subst (λ rule. is_broken_at raw rule finding.number ≡ true) same_rule least.broken) in
      let same_number : finding.number ≡ other.number = omega arith in
      λ i. record { rule = same_rule i; number = same_number i }

  pub least_is_found : (finding : Finding) → IsLeastBroken raw finding → finding_of raw ≡ Some finding
  least_is_found finding least = at (finding_of raw) refl
    where
      at : (o : Option Finding) → finding_of raw ≡ o → finding_of raw ≡ Some finding
      at None is = let holds = none_is_broken is finding.rule finding.number in let broken = least.broken in cc
      at (Some other) is = is ∙ ap Some (one_least other finding (finding_is_least other is) least)

  pub none_from_unbroken : ((rule number : ℕ) → is_broken_at raw rule number ≡ false) → IsWellFormed raw
  none_from_unbroken unbroken = at (finding_of raw) refl
    where
      at : (o : Option Finding) → finding_of raw ≡ o → finding_of raw ≡ None
      at None is = is
      at (Some finding) is = let broken = (finding_is_least finding is).broken in let holds = unbroken finding.rule finding.number in cc
