-- The first place at which a byte passes a test is what `position` says.
use Rattle.std.proofs.Common.{◌≡◌, ℕ, ◌<◌, ◌≤◌, Bool, cond, List, length, position, Option, Some, None, sym, ap, ◌∙◌, ⊎_elim, arith}
use mathlib.Core.Bool.{true≢false}
use Rattle.std.specs.List.{position_or_len}
use Rattle.std.proofs.lemmas.Bool.{cases_lt, lt-ltb, le-ltb}
use Rattle.std.proofs.lemmas.List.Sums.{passes_at_first, fails_before_first}
use Rattle.memchr.specs.Find.{IsFirstByte}

module _ (p : ℕ → Bool) (bytes : List ℕ) where
  abbrev first : ℕ
  first = position_or_len p bytes

  found : first < length bytes → position p bytes ≡ Some first
  found below = ap (λ b. cond b (Some first) None) (lt-ltb first (length bytes) below)

  missing : length bytes ≤ first → position p bytes ≡ None
  missing past = ap (λ b. cond b (Some first) None) (le-ltb first (length bytes) past)

  pub first_is : (r : Option ℕ) → IsFirstByte p bytes r → r ≡ position p bytes
  first_is None nowhere = sym (⊎_elim (λ below. absurd (nowhere first (omega arith) below (passes_at_first p bytes 0 below))) missing (cases_lt first (length bytes)))
  first_is (Some k) is = ap Some (sym same) ∙ sym (found (omega (arith, same, is.0.high)))
    where
      same : first ≡ k
      same = ⊎_elim
          (λ (less : first < k). absurd (is.0.before first (omega arith) less (passes_at_first p bytes 0 (omega (arith, less, is.0.high)))))
          (λ (from : k ≤ first). ⊎_elim
          (λ (more : k < first). absurd (true≢false (sym is.1 ∙ fails_before_first p bytes k 0 more)))
          (λ (past : first ≤ k). omega (arith, from, past))
          (cases_lt k first))
          (cases_lt first k)
