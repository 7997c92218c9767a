-- Zero bytes behind others.
use Rattle.std.proofs.Common.{◌≡◌, ℕ, ◌-◌, ◌≤◌, List, ◌++◌, length, take, drop, replicate, sym, ap, ◌∙◌, arith}
use Rattle.std.proofs.lemmas.List.{drop_at, length-drop, length-replicate, take_all}

-- what stands behind the first bytes, which are as many as there were, is as many zeros as it has bytes
pub zero_end : (all old : List ℕ) (count place : ℕ) → all ≡ old ++ replicate count 0 → place ≡ length old
    → take (length all - place) (drop place all) ≡ replicate (length (take (length all - place) (drop place all))) 0
zero_end all old count place is at = zeros ∙ ap (λ (n : ℕ). replicate n 0) (sym counted)
  where
    behind : drop place all ≡ replicate count 0
    behind = ap (λ (l : List ℕ). drop place l) is ∙ drop_at old (replicate count 0) place (sym at)

    reached : length (drop place all) ≤ length all - place
    reached = let len = length-drop place all in omega (arith, len)

    zeros : take (length all - place) (drop place all) ≡ replicate count 0
    zeros = take_all (length all - place) (drop place all) reached ∙ behind

    counted : length (take (length all - place) (drop place all)) ≡ count
    counted = ap length zeros ∙ length-replicate count 0
