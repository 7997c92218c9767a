-- The order of rows by the node's number and then the client's.
use Rattle.std.proofs.Common.{◌≡◌, ℕ, ◌<◌, ◌≤◌, true, false, not, Option, Some, None, refl, sym, ap, ◌∙◌, arith}
use Rattle.std.specs.declared.cmp.Ordering.{Ordering}
use Rattle.std.specs.declared.cmp.Ordering.TheVariants.{Less, Equal, Greater}
use Rattle.std.specs.declared.ops.Bound.TheVariants.{Included}
use Rattle.std.specs.Ordering.{nat_cmp, is_lt, is_gt, ordering_then}
use Rattle.std.specs.Cmp.{nat_cmp_is}
use Rattle.std.proofs.lemmas.Cmp.{ranked}
use Rattle.kfs_maps.specs.Chunks.Starts.{is_from}
use Rattle.kfs_lease.specs.Rows.Ending.{start_on}
use Rattle.kfs_lease.specs.Rows.Rows.{by_client, by_node}

-- a pair that isn't below another begins with no lesser part
pub first_part : (a b : ℕ) (o : Ordering) → is_lt (ordering_then (nat_cmp a b) o) ≡ false → b ≤ a
first_part a b o not_below = at (nat_cmp a b) refl not_below
  where
    at : (r : Ordering) → r ≡ nat_cmp a b → is_lt (ordering_then r o) ≡ false → b ≤ a
    at Less is n = cc
    at Equal is n = let h : a ≡ b = ranked a b Equal is in omega arith
    at Greater is n = let h : b < a = ranked a b Greater is in omega arith

-- of pairs with one first part the second parts decide
pub same_first : (n : ℕ) (o : Ordering) → ordering_then (nat_cmp n n) o ≡ o
same_first n o = ap (λ r. ordering_then r o) (sym (nat_cmp_is n n Equal refl))

-- of pairs with one second part the first parts decide, either way round
pub turned_compare : (m n c : ℕ) → by_node.compare (m, c) (n, c) ≡ by_client.compare (c, m) (c, n)
turned_compare m n c = ap (ordering_then (nat_cmp m n)) (sym (nat_cmp_is c c Equal refl)) ∙ alone (nat_cmp m n) ∙ sym (same_first c (nat_cmp m n))
  where
    alone : (o : Ordering) → ordering_then o Equal ≡ o
    alone Less = refl
    alone Equal = refl
    alone Greater = refl

pub less_first : (m n : ℕ) (o : Ordering) → m < n → ordering_then (nat_cmp m n) o ≡ Less
less_first m n o less = ap (λ r. ordering_then r o) (sym (nat_cmp_is m n Less less))

-- all rows of a node come from its start on
pub from_first : (number client : ℕ) → is_from by_node.compare (Included (number, 0)) (number, client) ≡ true
from_first number client = ap (λ o. not (is_lt o)) (same_first number (nat_cmp client 0)) ∙ at (nat_cmp client 0) refl
  where
    at : (r : Ordering) → r ≡ nat_cmp client 0 → not (is_lt r) ≡ true
    at Less is = let h : client < 0 = ranked client 0 Less is in absurd (omega (arith, h))
    at Equal is = refl
    at Greater is = refl

-- what comes from a node's start on is no row of a node before it
pub from_node : (number : ℕ) (after : Option ℕ) (key : ℕ × ℕ) → is_from by_node.compare (start_on number after) key ≡ true → number ≤ key.0
from_node number None key from = at (nat_cmp key.0 number) refl from
  where
    at : (r : Ordering) → r ≡ nat_cmp key.0 number → not (is_lt (ordering_then r (nat_cmp key.1 0))) ≡ true → number ≤ key.0
    at Less is n = cc
    at Equal is n = let h : key.0 ≡ number = ranked key.0 number Equal is in omega arith
    at Greater is n = let h : number < key.0 = ranked key.0 number Greater is in omega arith
from_node number (Some client) key from = at (nat_cmp key.0 number) refl from
  where
    at : (r : Ordering) → r ≡ nat_cmp key.0 number → is_gt (ordering_then r (nat_cmp key.1 client)) ≡ true → number ≤ key.0
    at Less is n = cc
    at Equal is n = let h : key.0 ≡ number = ranked key.0 number Equal is in omega arith
    at Greater is n = let h : number < key.0 = ranked key.0 number Greater is in omega arith
