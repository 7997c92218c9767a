-- The order of names by directory and bytes.
use Rattle.std.proofs.Common.{◌≡◌, ◌≢◌, ℕ, ◌<◌, List, [], ◌∷◌, false, refl, sym, ap, ◌∙◌, arith}
use Rattle.std.proofs.lemmas.Cmp.{ranked}
use Rattle.std.proofs.lemmas.List.Elements.{All-head}
use Rattle.std.specs.declared.cmp.Ordering.{Ordering}
use Rattle.std.specs.declared.cmp.Ordering.TheVariants.{Less, Equal, Greater}
use Rattle.std.specs.Ordering.{nat_cmp, is_lt, is_gt, ordering_reverse, ordering_then}
use Rattle.std.specs.Cmp.{nat_cmp_is}
use Rattle.std.specs.Cmp.Lexicographic.{slice_cmp}
use Rattle.kfs_model.specs.Spelling.{IsName, slash}
use Rattle.kfs_model.specs.Table.{byte_order}
use Rattle.kfs_model.specs.Tree.{name_order}

-- in one directory the bytes decide
pub in_directory : (d : ℕ) (a b : List ℕ) → name_order.compare (d, a) (d, b) ≡ slice_cmp nat_cmp a b
in_directory d a b = ap (λ r. ordering_then r (slice_cmp nat_cmp a b)) (sym (nat_cmp_is d d Equal refl))

pub earlier_directory : (d e : ℕ) (a b : List ℕ) → d < e → name_order.compare (d, a) (e, b) ≡ Less
earlier_directory d e a b less = ap (λ r. ordering_then r (slice_cmp nat_cmp a b)) (sym (nat_cmp_is d e Less less))

-- in one directory a name stands behind another where its bytes do
pub behind_in_directory : (d : ℕ) (a b : List ℕ) → is_gt (name_order.compare (d, b) (d, a)) ≡ is_lt (slice_cmp nat_cmp a b)
behind_in_directory d a b = ap is_gt (in_directory d b a ∙ byte_order.total.antisymm b a) ∙ turned (slice_cmp nat_cmp a b)
  where
    turned : (o : Ordering) → is_gt (ordering_reverse o) ≡ is_lt o
    turned Less = refl
    turned Equal = refl
    turned Greater = refl

none_before : (m : List ℕ) → is_lt (slice_cmp nat_cmp m []) ≡ false
none_before [] = refl
none_before (b ∷ bytes) = refl

-- no name stands before the byte 1 alone
pub least_of_names : (m : List ℕ) → IsName m → is_lt (slice_cmp nat_cmp m (1 ∷ [])) ≡ false
least_of_names [] name = absurd (omega (arith, name.some))
least_of_names (b ∷ bytes) name = at (nat_cmp b 1) refl
  where
    at : (r : Ordering) → r ≡ nat_cmp b 1 → is_lt (ordering_then r (slice_cmp nat_cmp bytes [])) ≡ false
    at Less is =
        let below : b < 1 = ranked b 1 Less is in
        absurd ((All-head (λ byte. (byte ≢ 0) × (byte ≢ slash)) b bytes name.plain).0 (omega (arith, below)))
    at Equal is = none_before bytes
    at Greater is = refl
