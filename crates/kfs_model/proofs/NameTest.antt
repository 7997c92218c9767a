-- The test of bytes says whether they are a name.
use Rattle.std.proofs.Common.{◌≡◌, ◌≢◌, ℕ, Bool, true, false, not, eqb, ltb, leb, List, [], ◌∷◌, length, refl, ap, arith, inl, inr, ◌&&◌}
use Rattle.std.specs.List.{list_all}
use Rattle.std.proofs.lemmas.Bool.{and_parts, eqb-true, ltb-true, leb-true, lt-ltb, le-leb, ne_eqb, cases_Bool}
use Rattle.std.proofs.lemmas.List.Elements.{All-weaker}
use Rattle.std.proofs.lemmas.List.Sums.{AllPass-from_list_all, list_all-from_AllPass}
use Rattle.kfs_model.specs.Spelling.{IsName, is_name, is_dots}

abbrev is_plain : ℕ → Bool
is_plain byte = not (eqb byte 0) && not (eqb byte 47)

plain_true : (byte : ℕ) → (byte ≢ 0) × (byte ≢ 47) → is_plain byte ≡ true
plain_true byte h = rw (ne_eqb byte 0 h.0, ne_eqb byte 47 h.1) refl

differs : (a b : ℕ) → not (eqb a b) ≡ true → a ≢ b
differs a b h e = let same : eqb a b ≡ true = rw e (search arith) in cc

plain_sound : (byte : ℕ) → is_plain byte ≡ true → (byte ≢ 0) × (byte ≢ 47)
plain_sound byte h = let parts = and_parts (not (eqb byte 0)) (not (eqb byte 47)) h in (differs byte 0 parts.0, differs byte 47 parts.1)

dots_false : (bytes : List ℕ) → bytes ≢ 46 ∷ [] → bytes ≢ 46 ∷ 46 ∷ [] → is_dots bytes ≡ false
dots_false [] this parent = refl
dots_false (a ∷ []) this parent = ne_eqb a 46 (λ e. this (ap (λ x. x ∷ []) e))
dots_false (a ∷ b ∷ []) this parent =
    elim (cases_Bool (eqb a 46 && eqb b 46)) [
      | inl both ↦ let parts = and_parts (eqb a 46) (eqb b 46) both in
          absurd (parent (rw (eqb-true a 46 parts.0, eqb-true b 46 parts.1) refl))
      | inr isnt ↦ isnt
    ]
dots_false (a ∷ b ∷ c ∷ bytes) this parent = refl

dots_sound : (bytes : List ℕ) → is_dots bytes ≡ false → (bytes ≢ 46 ∷ []) × (bytes ≢ 46 ∷ 46 ∷ [])
dots_sound bytes h = (λ e. let one : is_dots bytes ≡ true = rw e refl in cc, λ e. let one : is_dots bytes ≡ true = rw e refl in cc)

pub is_name_true : (bytes : List ℕ) → IsName bytes → is_name bytes ≡ true
unfolding is_name
is_name_true bytes named =
    let plain : list_all is_plain bytes ≡ true = list_all-from_AllPass is_plain bytes (All-weaker (λ byte. (byte ≢ 0) × (byte ≢ 47)) (λ byte. is_plain byte ≡ true) plain_true bytes named.plain) in
    rw (lt-ltb 0 (length bytes) named.some, le-leb (length bytes) 255 named.short, plain, dots_false bytes named.not_this named.not_parent) refl

pub is_name_sound : (bytes : List ℕ) → is_name bytes ≡ true → IsName bytes
unfolding is_name
is_name_sound bytes test =
    let a = and_parts (ltb 0 (length bytes) && leb (length bytes) 255 && list_all is_plain bytes) (not (is_dots bytes)) test in
    let b = and_parts (ltb 0 (length bytes) && leb (length bytes) 255) (list_all is_plain bytes) a.0 in
    let c = and_parts (ltb 0 (length bytes)) (leb (length bytes) 255) b.0 in
    let dots : is_dots bytes ≡ false = elim (cases_Bool (is_dots bytes)) [ inl is ↦ let flipped : not (is_dots bytes) ≡ false = rw is refl in cc | inr isnt ↦ isnt ] in
    let apart = dots_sound bytes dots in
    record {
      some = ltb-true 0 (length bytes) c.0;
      short = leb-true (length bytes) 255 c.1;
      plain = All-weaker (λ byte. is_plain byte ≡ true) (λ byte. (byte ≢ 0) × (byte ≢ 47)) plain_sound bytes (AllPass-from_list_all is_plain bytes b.1);
      not_this = apart.0;
      not_parent = apart.1;
    }

pub is_name_false : (bytes : List ℕ) → (IsName bytes → ⊥) → is_name bytes ≡ false
is_name_false bytes unnamed = elim (cases_Bool (is_name bytes)) [ inl is ↦ absurd (unnamed (is_name_sound bytes is)) | inr isnt ↦ isnt ]

pub ruleset name_tests = (is_name_true, is_name_false)
