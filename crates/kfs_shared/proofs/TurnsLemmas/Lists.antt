-- Lists that begin alike.
use Rattle.std.proofs.Common.{◌≡◌, ◌≤◌, List, [], ◌++◌, length, sym, ap, ◌∙◌, length-append, append_assoc, append-nil, arith}
use Rattle.kfs_shared.specs.Turns.Lists.{StartsWith}

module _ {W : Type 0} where
  -- what begins a beginning begins the whole
  pub starts_trans : (a b c : List W) → StartsWith a b → StartsWith b c → StartsWith a c
  starts_trans a b c p q = (q.0 ++ p.0, p.1 ∙ (ap (λ (z : List W). z ++ p.0) q.1 ∙ append_assoc c q.0 p.0))

  -- a list begins with itself
  pub starts_same : (a b : List W) → a ≡ b → StartsWith a b
  starts_same a b e = ([], e ∙ sym (append-nil b))

  pub starts_longer : (longer shorter : List W) → StartsWith longer shorter → length shorter ≤ length longer
  starts_longer longer shorter p = let e = ap length p.1 ∙ length-append shorter p.0 in omega arith
