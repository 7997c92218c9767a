-- A value that was decoded, and why one was not, as the definitions say it.
use Rattle.std.proofs.Common.{◌≡◌, ◌≢◌, ℕ, ◌+◌, ◌<◌, ◌≤◌, List, [], ◌++◌, length, drop, Result, Ok, Err, sym, ap, subst, ◌∙◌, arith}
use Rattle.std.proofs.lemmas.List.{append-nil, drop_all, length-drop}
use Rattle.kfs_model.specs.Spelling.{IsBytes}
use Rattle.kfs_call.specs.Layout.{joined, Answer, LayoutFault, LacksField}
use Rattle.kfs_call.specs.Reading.{IsSeen, OnAnswer}
use Rattle.kfs_call.specs.declared.fault.FieldFault.{FieldFault}
use Rattle.kfs_call.specs.declared.fault.FieldFault.TheVariants as faults
use Rattle.kfs_call.proofs.Layouts.{Found, IsLayout}

abbrev pub given : {M : Type 0} → M → Result M LayoutFault
given value = Ok value

abbrev read : {M : Type 0} → M × List ℕ → Result (M × List ℕ) ℕ
read x = Ok x

abbrev missing : {M : Type 0} → ℕ → Result (M × List ℕ) ℕ
missing k = Err k

not_missing : {M : Type 0} (k : ℕ) (x : M × List ℕ) → missing k ≡ read x → ⊥
not_missing k x e = absurd cc

ok_is : {M : Type 0} (x y : M × List ℕ) → read x ≡ read y → x ≡ y
ok_is x y e = cc

module _ {V M : Type 0} {F : M → Type 0} {t : M → List (List ℕ)} {r : List ℕ → Result (M × List ℕ) ℕ} (view : V → M) (layout : IsLayout F t 0 r) (source : List ℕ) (are : IsBytes source) where
  -- what was found at the front
  at_front : (found : Result (M × List ℕ) ℕ) → r source ≡ found → Found F t 0 source found
  at_front found is = subst (λ (x : Result (M × List ℕ) ℕ). Found F t 0 source x) is (layout.takes source are)

  -- a missing field is told
  pub told : (fault : FieldFault) → IsSeen view source (Err fault) (r source) → OnAnswer view (Answer F t source) (Err fault)
  told (faults.BadField k) seen =
      let found = at_front (Err k) seen in
      let same : found.0 ≡ k = let is : k ≡ 0 + found.0 = found.1 in omega arith in
      subst (λ (j : ℕ). LacksField F t j source) same found.2
  told faults.Trailing seen = absurd seen
  told faults.OutOfMemory seen = tt

  -- bytes remain
  pub told_trailing : (value : V) (end : ℕ) → end < length source → r source ≡ Ok (view value, drop end source) → OnAnswer view (Answer F t source) (Err faults.Trailing)
  told_trailing value end lt seen =
      let found = at_front (Ok (view value, drop end source)) seen in
      let some : drop end source ≢ [] = λ none. (let zero : length (drop end source) ≡ 0 = ap length none in omega (arith, length-drop end source, zero)) in
      (view value, drop end source, found.0, some, found.1)

  -- all was read
  pub told_value : (value : V) (end : ℕ) → length source ≤ end → r source ≡ Ok (view value, drop end source) → Answer F t source (Ok (view value))
  told_value value end le seen =
      let found = at_front (Ok (view value, drop end source)) seen in
      (found.0, found.1 ∙ ap (λ (b : List ℕ). joined (t (view value)) ++ b) (drop_all end source le) ∙ append-nil (joined (t (view value))))

  module _ (value : M) (fits : F value) (spelled : source ≡ joined (t value)) where
    -- the bytes of a value are read as it, and nothing remains
    reads : r source ≡ Ok (value, [])
    reads = ap r (spelled ∙ sym (append-nil (joined (t value)))) ∙ layout.again value [] fits

    pub never_told : (fault : FieldFault) → IsSeen view source (Err fault) (r source) → OnAnswer view (λ given. given ≡ Ok value) (Err fault)
    never_told (faults.BadField k) seen = absurd (not_missing k (value, []) (sym seen ∙ reads))
    never_told faults.Trailing seen = absurd seen
    never_told faults.OutOfMemory seen = tt

    pub never_trailing : (other : V) (end : ℕ) → end < length source → r source ≡ Ok (view other, drop end source) → OnAnswer view (λ given. given ≡ Ok value) (Err faults.Trailing)
    never_trailing other end lt seen =
        let found : M × List ℕ = (view other, drop end source) in
        let whole : M × List ℕ = (value, []) in
        let same : found ≡ whole = ok_is found whole (sym seen ∙ reads) in
        let none : drop end source ≡ [] = ap (λ (x : M × List ℕ). x.1) same in
        let zero : length (drop end source) ≡ 0 = ap length none in
        absurd (omega (arith, length-drop end source, zero))

    pub only_value : (other : V) (end : ℕ) → r source ≡ Ok (view other, drop end source) → given (view other) ≡ given value
    only_value other end seen =
        let found : M × List ℕ = (view other, drop end source) in
        let whole : M × List ℕ = (value, []) in
        ap (λ (x : M × List ℕ). given x.0) (ok_is found whole (sym seen ∙ reads))
