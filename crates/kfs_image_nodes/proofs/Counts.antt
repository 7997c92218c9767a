-- How many entries of a table pass a test, after a change at one key.
use Rattle.std.proofs.Common.{◌≡◌, ◌+◌, Bool, Option, Some, None, count_by, ◌∙◌, arith}
use Rattle.kfs_model.specs.Table.{Order, Table, get, changed}
use Rattle.kfs_model.proofs.Counts.{counted, count-insert, count-remove}

module _ {K X : Type 0} {R : Order K} (p : K × X → Bool) where
  -- what stood at the key counts no more, and what stands there now does
  pub count-changed : (t : Table R X) (k : K) (w : Option X) → count_by p (changed t k w).entries + counted R p k (get t k) ≡ count_by p t.entries + counted R p k w
  unfolding changed
  count-changed t k None = count-remove R p t k ∙ omega arith
  count-changed t k (Some v) = count-insert R p t k v
