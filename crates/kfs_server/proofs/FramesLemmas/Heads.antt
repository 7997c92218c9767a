-- A head as its twelve bytes.
use Rattle.std.proofs.Common.{◌≡◌, ℕ, zero, suc, ◌+◌, ◌*◌, ◌<◌, ◌≤◌, List, [], ◌∷◌, length, get_or, refl, ap, ◌∙◌, arith, drop-cons}
use Rattle.std.proofs.lemmas.List.{drop_all}
use Rattle.std.proofs.lemmas.Nat.{be_bytes_4}
use Rattle.kfs_model.specs.Spelling.{IsBytes, number32}
use Rattle.kfs_server.specs.Frames.Frame.{head_bytes}

-- the number that four bytes make
abbrev pub made_of_four : (a b c d : ℕ) → ℕ
made_of_four a b c d = ((a * 16777216 + b * 65536) + c * 256) + d

are_bytes : (a b c d : ℕ) → a < 256 → b < 256 → c < 256 → d < 256 → IsBytes (a ∷ b ∷ c ∷ d ∷ [])
are_bytes a b c d la lb lc ld zero = la
are_bytes a b c d la lb lc ld (suc zero) = lb
are_bytes a b c d la lb lc ld (suc (suc zero)) = lc
are_bytes a b c d la lb lc ld (suc (suc (suc zero))) = ld
are_bytes a b c d la lb lc ld (suc (suc (suc (suc i)))) = omega arith

four : (a b c d n : ℕ) → a < 256 → b < 256 → c < 256 → d < 256 → n ≡ made_of_four a b c d → number32 n ≡ a ∷ b ∷ c ∷ d ∷ []
unfolding number32
four a b c d n la lb lc ld is = be_bytes_4 (a ∷ b ∷ c ∷ d ∷ []) n refl (are_bytes a b c d la lb lc ld) is

-- twelve bytes are the head with the numbers that they make
pub head_is : (bs : List ℕ) (len number from : ℕ) → IsBytes bs → 12 ≤ length bs → length bs < 13
    → len ≡ made_of_four (get_or bs 0 0) (get_or bs 1 0) (get_or bs 2 0) (get_or bs 3 0)
    → number ≡ made_of_four (get_or bs 4 0) (get_or bs 5 0) (get_or bs 6 0) (get_or bs 7 0)
    → from ≡ made_of_four (get_or bs 8 0) (get_or bs 9 0) (get_or bs 10 0) (get_or bs 11 0)
    → bs ≡ head_bytes len number from
head_is bs len number from are some few len_is number_is from_is =
    rw (four _ _ _ _ len (are 0) (are 1) (are 2) (are 3) len_is, four _ _ _ _ number (are 4) (are 5) (are 6) (are 7) number_is, four _ _ _ _ from (are 8) (are 9) (are 10) (are 11) from_is)
    (drop-cons bs 0 0 (omega (arith, some)) ∙ ap (λ (t : List ℕ). get_or bs 0 0 ∷ t)
    (drop-cons bs 1 0 (omega (arith, some)) ∙ ap (λ (t : List ℕ). get_or bs 1 0 ∷ t)
    (drop-cons bs 2 0 (omega (arith, some)) ∙ ap (λ (t : List ℕ). get_or bs 2 0 ∷ t)
    (drop-cons bs 3 0 (omega (arith, some)) ∙ ap (λ (t : List ℕ). get_or bs 3 0 ∷ t)
    (drop-cons bs 4 0 (omega (arith, some)) ∙ ap (λ (t : List ℕ). get_or bs 4 0 ∷ t)
    (drop-cons bs 5 0 (omega (arith, some)) ∙ ap (λ (t : List ℕ). get_or bs 5 0 ∷ t)
    (drop-cons bs 6 0 (omega (arith, some)) ∙ ap (λ (t : List ℕ). get_or bs 6 0 ∷ t)
    (drop-cons bs 7 0 (omega (arith, some)) ∙ ap (λ (t : List ℕ). get_or bs 7 0 ∷ t)
    (drop-cons bs 8 0 (omega (arith, some)) ∙ ap (λ (t : List ℕ). get_or bs 8 0 ∷ t)
    (drop-cons bs 9 0 (omega (arith, some)) ∙ ap (λ (t : List ℕ). get_or bs 9 0 ∷ t)
    (drop-cons bs 10 0 (omega (arith, some)) ∙ ap (λ (t : List ℕ). get_or bs 10 0 ∷ t)
    (drop-cons bs 11 0 (omega (arith, some)) ∙ ap (λ (t : List ℕ). get_or bs 11 0 ∷ t)
    (drop_all 12 bs (omega (arith, few)))))))))))))))
