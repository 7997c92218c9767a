-- A finite map whose entries stand in the order of their keys. It computes, so equal tables of literals
-- are equal by `refl`.
--     get t k, insert t k v, remove t k      the value at a key; the table with an entry added or removed
--     changed t k value      the table with this value at the key, or without an entry there
--     retain p t      the entries whose keys pass a test
--     mapped f t      the table with each value changed by a function of its key
--     united old new      the entries of both tables; at a common key the one of `new`
use Rattle.std.specs.Prelude.{◌≡◌, ℕ, Bool, not, ◌&&◌, T, List, [], ◌∷◌, refl, Option, Some, None}
use Rattle.std.specs.declared.cmp.Ordering.{Ordering}
use Rattle.std.specs.declared.cmp.Ordering.TheVariants.{Less, Equal, Greater}
use Rattle.std.specs.Ordering.{is_eq, nat_cmp, on, then_cmp, ordering_then, is_lt, eq_by_cmp}
use Rattle.std.specs.Cmp.{IsTotalOrder, nat_cmp_total, on_total, then_total}
use Rattle.std.specs.Cmp.Lexicographic.{slice_cmp, nat_list_cmp_total}
use Rattle.std.specs.FinMap.{IsAntisymmetric, nat_cmp-IsAntisymmetric, slice_cmp-IsAntisymmetric}
use Rattle.std.specs.FinMap.Entries.{find, put, where_key, is_sorted, below_all, is_sorted-put, is_sorted-where_key}
use mathlib.Core.Path.{sym, ap, subst}

-- the first value, or the second where there is no first
abbrev pub option_or : {X : Type 0} → Option X → Option X → Option X
option_or None y = y
option_or (Some x) y = Some x

-- an order of keys in which only equal keys compare as equal
pub record Order (K : Type 0) : Type 0 where
  pub compare : K → K → Ordering
  pub total : IsTotalOrder compare
  pub exact : IsAntisymmetric compare

abbrev pub numbers : Order ℕ
numbers = record { compare = nat_cmp; total = nat_cmp_total; exact = nat_cmp-IsAntisymmetric }

abbrev pub byte_order : Order (List ℕ)
byte_order = record { compare = slice_cmp nat_cmp; total = nat_list_cmp_total; exact = slice_cmp-IsAntisymmetric nat_cmp-IsAntisymmetric }

then_first : (a b : Ordering) → ordering_then a b ≡ Equal → a ≡ Equal
then_first Less b e = absurd (subst (λ r. T (is_eq r)) (sym e) tt)
then_first Equal b e = refl
then_first Greater b e = absurd (subst (λ r. T (is_eq r)) (sym e) tt)

then_second : (a b : Ordering) → ordering_then a b ≡ Equal → b ≡ Equal
then_second Less b e = absurd (subst (λ r. T (is_eq r)) (sym e) tt)
then_second Equal b e = e
then_second Greater b e = absurd (subst (λ r. T (is_eq r)) (sym e) tt)

module _ {J K : Type 0} where
  -- the order of pairs: by the first part, then by the second
  pub pairs_exact : (R : Order J) (S : Order K) → IsAntisymmetric (then_cmp (on (λ (p : J × K). p.0) R.compare) (on (λ (p : J × K). p.1) S.compare))
  pairs_exact R S x y e =
      let first = R.exact x.0 y.0 (then_first _ _ e) in
      let second = S.exact x.1 y.1 (then_second _ _ e) in
      λ i. (first i, second i)

  abbrev pub pairs : Order J → Order K → Order (J × K)
  pairs R S = record {
    compare = then_cmp (on (λ (p : J × K). p.0) R.compare) (on (λ (p : J × K). p.1) S.compare);
    total = then_total (on_total (λ (p : J × K). p.0) R.total) (on_total (λ (p : J × K). p.1) S.total);
    exact = pairs_exact R S;
  }

pub record Table {K : Type 0} (R : Order K) (X : Type 0) : Type 0 where
  pub entries : List (K × X)
  pub sorted : T (is_sorted R.compare entries)

module _ {K X : Type 0} {R : Order K} where
  abbrev pub empty : Table R X
  empty = record { entries = []; sorted = tt }

  unfoldable pub get : Table R X → K → Option X
  get t k = find R.compare k t.entries

  unfoldable pub insert : Table R X → K → X → Table R X
  insert t k v = record { entries = put R.compare k v t.entries; sorted = is_sorted-put R.compare R.total k v t.entries t.sorted }

  unfoldable pub retain : (K → Bool) → Table R X → Table R X
  retain p t = record { entries = where_key R.compare p t.entries; sorted = is_sorted-where_key R.compare p t.entries t.sorted }

  unfoldable pub remove : Table R X → K → Table R X
  remove t k = retain (λ j. not (eq_by_cmp R.compare k j)) t

  -- the table with this value at the key, or without an entry there
  unfoldable pub changed : Table R X → K → Option X → Table R X
  changed t key None = remove t key
  changed t key (Some value) = insert t key value

module _ {K X Y : Type 0} where
  -- the entries with each value changed by a function of its key
  abbrev pub changed_entries : (K → X → Y) → List (K × X) → List (K × Y)
  changed_entries f [] = []
  changed_entries f (e ∷ es) = (e.0, f e.0 e.1) ∷ changed_entries f es

module _ {K X Y : Type 0} (R : Order K) where
  below_all-changed : (f : K → X → Y) (k : K) (es : List (K × X)) → below_all R.compare k (changed_entries f es) ≡ below_all R.compare k es
  below_all-changed f k [] = refl
  below_all-changed f k (e ∷ es) = ap (λ b. is_lt (R.compare k e.0) && b) (below_all-changed f k es)

  pub is_sorted-changed : (f : K → X → Y) (es : List (K × X)) → is_sorted R.compare (changed_entries f es) ≡ is_sorted R.compare es
  is_sorted-changed f [] = refl
  is_sorted-changed f (e ∷ es) = λ i. below_all-changed f e.0 es i && is_sorted-changed f es i

module _ {K X Y : Type 0} {R : Order K} where
  unfoldable pub mapped : (K → X → Y) → Table R X → Table R Y
  mapped f t = record { entries = changed_entries f t.entries; sorted = subst T (sym (is_sorted-changed R f t.entries)) t.sorted }

module _ {K X : Type 0} (R : Order K) where
  -- the entries of both lists; at a common key the one of the second
  abbrev pub united_entries : List (K × X) → List (K × X) → List (K × X)
  united_entries old [] = old
  united_entries old (e ∷ es) = put R.compare e.0 e.1 (united_entries old es)

  pub is_sorted-united : (old new : List (K × X)) → T (is_sorted R.compare old) → T (is_sorted R.compare (united_entries old new))
  is_sorted-united old [] h = h
  is_sorted-united old (e ∷ es) h = is_sorted-put R.compare R.total e.0 e.1 (united_entries old es) (is_sorted-united old es h)

module _ {K X : Type 0} {R : Order K} where
  -- the entries of both tables; at a common key the one of the second
  unfoldable pub united : Table R X → Table R X → Table R X
  united old new = record { entries = united_entries R old.entries new.entries; sorted = is_sorted-united R old.entries new.entries old.sorted }
