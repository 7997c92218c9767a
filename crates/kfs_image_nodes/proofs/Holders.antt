-- Which directory holds a node: the least one with a name that leads there.
use Rattle.std.proofs.Common.{◌≡◌, ℕ, ◌+◌, ◌<◌, ◌≤◌, Bool, true, false, cond, not, T, ◌&&◌, ◌==◌, List, [], ◌∷◌, Option, Some, None, refl, sym, ap, subst, ◌∙◌, eq-eqb, arith}
use Rattle.std.specs.Prelude.{option_map, find, unwrap_or, IsSome}
use Rattle.std.specs.declared.cmp.Ordering.{Ordering}
use Rattle.std.specs.declared.cmp.Ordering.TheVariants.{Less, Equal, Greater}
use Rattle.std.specs.Ordering.{nat_cmp, is_lt, ordering_then}
use Rattle.std.specs.Cmp.{nat_cmp_is}
use Rattle.std.specs.declared.ops.Bound.TheVariants.{Included}
use Rattle.std.specs.List.{count_by}
use Rattle.std.specs.FinMap.Entries.{find as find_key, is_sorted, below_all}
use Rattle.std.proofs.lemmas.List.Sums.{sum_by-cons}
use Rattle.std.proofs.lemmas.Cmp.{ranked}
use Rattle.std.proofs.lemmas.Bool.Decides.{nat_tests}
use Rattle.kfs_model.specs.Table.{Table, numbers, get}
use Rattle.kfs_model.specs.Tree.{NameTable, name_order}
use Rattle.kfs_model.specs.Sight.{holder}
use Rattle.kfs_maps.specs.Chunks.Starts.{is_from, IsNextEntry}
use Rattle.kfs_maps.specs.Chunks.Tables.{table}
use Rattle.kfs_maps.proofs.ChunksLemmas.Tables.{get-table}
use Rattle.kfs_image_nodes.specs.Indexes.{by_node, ways_count, IsCounted}

abbrev Entry : Type 0
Entry = (ℕ × List ℕ) × ℕ

-- how many of the entries lead from the directory to the node
abbrev ways : List Entry → (number directory : ℕ) → ℕ
ways es number directory = count_by (λ (e : Entry). (e.1 == number) && (e.0.0 == directory)) es

ways-cons : (e : Entry) (es : List Entry) (n d : ℕ) → ways (e ∷ es) n d ≡ cond ((e.1 == n) && (e.0.0 == d)) 1 0 + ways es n d
ways-cons e es n d = sum_by-cons (λ (e : Entry). cond ((e.1 == n) && (e.0.0 == d)) 1 0) e es

right_part : (a b : Bool) → T (a && b) → T b
right_part true b t = t
right_part false b t = absurd t

left_part : (a b : Bool) → T (a && b) → T a
left_part true b t = tt
left_part false b t = t

not_below : (a b : ℕ) (o : Ordering) → T (is_lt (ordering_then (nat_cmp a b) o)) → a ≤ b
not_below a b o t = at (nat_cmp a b) refl t
  where
    at : (r : Ordering) → r ≡ nat_cmp a b → T (is_lt (ordering_then r o)) → a ≤ b
    at Less is t = let h : a < b = ranked a b Less is in omega arith
    at Equal is t = let h : a ≡ b = ranked a b Equal is in omega arith
    at Greater is t = absurd t

-- a test of equality fails at numbers apart
apart : (a b : ℕ) → b < a → (a == b) ≡ false
apart a b less = grind (arith, nat_tests)

abbrev one_if : Bool → ℕ
one_if b = cond b 1 0

counts_not : (p b : Bool) → b ≡ false → one_if (p && b) ≡ 0
counts_not true b e = ap one_if e
counts_not false b e = refl

-- entries behind one of a later directory don't stand in an earlier one
none_behind : (e : Entry) (es : List Entry) (n d : ℕ) → d < e.0.0 → T (below_all name_order.compare e.0 es) → ways es n d ≡ 0
none_behind e [] n d before below = refl
none_behind e (f ∷ es) n d before below =
    let later : e.0.0 ≤ f.0.0 = not_below e.0.0 f.0.0 _ (left_part _ _ below) in
    let here : one_if ((f.1 == n) && (f.0.0 == d)) ≡ 0 = counts_not (f.1 == n) (f.0.0 == d) (apart f.0.0 d (omega arith)) in
    let rest : ways es n d ≡ 0 = none_behind e es n d before (right_part (is_lt (name_order.compare e.0 f.0)) (below_all name_order.compare e.0 es) below) in
    omega (arith, here, rest, ways-cons f es n d)

abbrev held_by : List Entry → ℕ → Option ℕ
held_by es number = option_map (λ (e : Entry). e.0.0) (find (λ (e : Entry). e.1 == number) es)

-- the first entry that leads to the node stands in the least directory that has one
first_holds : (es : List Entry) (n d : ℕ) → T (is_sorted name_order.compare es) → 0 < ways es n d → ((c : ℕ) → c < d → ways es n c ≡ 0) → held_by es n ≡ Some d
first_holds [] n d sorted some least = absurd (let none : ways [] n d ≡ 0 = refl in omega arith)
first_holds (e ∷ es) n d sorted some least = at (e.1 == n) refl (λ some least. first_holds es n d (right_part _ _ sorted) some least)
  where
    in_place : (e.1 == n) ≡ true → (r : Ordering) → r ≡ nat_cmp e.0.0 d → Some e.0.0 ≡ Some d
    in_place is Less r =
        let less : e.0.0 < d = ranked e.0.0 d Less r in
        let here : one_if ((e.1 == n) && (e.0.0 == e.0.0)) ≡ 1 = ap (λ b. one_if (b && (e.0.0 == e.0.0))) is ∙ ap one_if (eq-eqb e.0.0 e.0.0 refl) in
        absurd (omega (arith, here, least e.0.0 less, ways-cons e es n e.0.0))
    in_place is Equal r = ap Some (ranked e.0.0 d Equal r)
    in_place is Greater r =
        let greater : d < e.0.0 = ranked e.0.0 d Greater r in
        let here : one_if ((e.1 == n) && (e.0.0 == d)) ≡ 0 = counts_not (e.1 == n) (e.0.0 == d) (apart e.0.0 d greater) in
        absurd (omega (arith, here, none_behind e es n d greater (left_part _ _ sorted), ways-cons e es n d))

    elsewhere : (e.1 == n) ≡ false → (c : ℕ) → ways es n c ≡ ways (e ∷ es) n c
    elsewhere is c = let here : one_if ((e.1 == n) && (e.0.0 == c)) ≡ 0 = ap (λ b. one_if (b && (e.0.0 == c))) is in omega (arith, here, ways-cons e es n c)

    at : (b : Bool) → (e.1 == n) ≡ b → (0 < ways es n d → ((c : ℕ) → c < d → ways es n c ≡ 0) → held_by es n ≡ Some d)
        → option_map (λ (e : Entry). e.0.0) (cond (e.1 == n) (Some e) (find (λ (e : Entry). e.1 == n) es)) ≡ Some d
    at true is rest = ap (λ b. option_map (λ (e : Entry). e.0.0) (cond b (Some e) (find (λ (e : Entry). e.1 == n) es))) is ∙ in_place is (nat_cmp e.0.0 d) refl
    at false is rest =
        ap (λ b. option_map (λ (e : Entry). e.0.0) (cond b (Some e) (find (λ (e : Entry). e.1 == n) es))) is
        ∙ rest (omega (arith, elsewhere is d, some)) (λ c less. elsewhere is c ∙ least c less)

no_holder : (es : List Entry) (n : ℕ) → ((c : ℕ) → ways es n c ≡ 0) → held_by es n ≡ None
no_holder [] n none = refl
no_holder (e ∷ es) n none = at (e.1 == n) refl (λ none. no_holder es n none)
  where
    at : (b : Bool) → (e.1 == n) ≡ b → (((c : ℕ) → ways es n c ≡ 0) → held_by es n ≡ None)
        → option_map (λ (e : Entry). e.0.0) (cond (e.1 == n) (Some e) (find (λ (e : Entry). e.1 == n) es)) ≡ None
    at true is rest =
        let here : one_if ((e.1 == n) && (e.0.0 == e.0.0)) ≡ 1 = ap (λ b. one_if (b && (e.0.0 == e.0.0))) is ∙ ap one_if (eq-eqb e.0.0 e.0.0 refl) in
        absurd (omega (arith, here, none e.0.0, ways-cons e es n e.0.0))
    at false is rest =
        ap (λ b. option_map (λ (e : Entry). e.0.0) (cond b (Some e) (find (λ (e : Entry). e.1 == n) es))) is
        ∙ rest (λ c. let here : one_if ((e.1 == n) && (e.0.0 == c)) ≡ 0 = ap (λ b. one_if (b && (e.0.0 == c))) is in omega (arith, here, none c, ways-cons e es n c))

-- the least directory with a name that leads to the node holds it
pub least_holds : (names : NameTable) (n d : ℕ) → 0 < ways_count names n d → ((c : ℕ) → c < d → ways_count names n c ≡ 0) → holder names n ≡ Some d
least_holds names n d some least = first_holds names.entries n d names.sorted some least

pub nothing_holds : (names : NameTable) (n : ℕ) → ((c : ℕ) → ways_count names n c ≡ 0) → holder names n ≡ None
nothing_holds names n none = no_holder names.entries n none

-- ---- by the first way up that is counted

from_first : (n c : ℕ) → is_from by_node.compare (Included (n, 0)) (n, c) ≡ true
from_first n c = ap (λ r. not (is_lt (ordering_then r (nat_cmp c 0)))) (sym (nat_cmp_is n n Equal refl)) ∙ at (nat_cmp c 0) refl
  where
    at : (r : Ordering) → r ≡ nat_cmp c 0 → not (is_lt r) ≡ true
    at Less is = let less : c < 0 = ranked c 0 Less is in absurd (omega arith)
    at Equal is = refl
    at Greater is = refl

before_in_node : (n c d : ℕ) → c < d → is_lt (by_node.compare (n, c) (n, d)) ≡ true
before_in_node n c d less = ap (λ r. is_lt (ordering_then r (nat_cmp c d))) (sym (nat_cmp_is n n Equal refl)) ∙ ap is_lt (sym (nat_cmp_is c d Less less))

before_node : (n c k d : ℕ) → n < k → is_lt (by_node.compare (n, c) (k, d)) ≡ true
before_node n c k d less = ap (λ r. is_lt (ordering_then r (nat_cmp c d))) (sym (nat_cmp_is n k Less less))

at_or_after : (n k d : ℕ) → is_from by_node.compare (Included (n, 0)) (k, d) ≡ true → n ≤ k
at_or_after n k d within = at (nat_cmp k n) refl within
  where
    at : (r : Ordering) → r ≡ nat_cmp k n → not (is_lt (ordering_then r (nat_cmp d 0))) ≡ true → n ≤ k
    at Less is within = cc
    at Equal is within = let same : k ≡ n = ranked k n Equal is in omega arith
    at Greater is within = let more : n < k = ranked k n Greater is in omega arith

none_found : (o : Option ℕ) → (IsSome o → ⊥) → o ≡ None
none_found None never = refl
none_found (Some n) never = absurd (never refl)

module _ {names : NameTable} {counts : Table numbers ℕ} (uplinks : List ((ℕ × ℕ) × ℕ)) (counted : IsCounted names counts (table by_node uplinks)) (n : ℕ) where
  no_ways : (c : ℕ) → find_key by_node.compare (n, c) uplinks ≡ None → ways_count names n c ≡ 0
  no_ways c none = sym (counted.uplinks n c) ∙ ap (λ o. unwrap_or o 0) (get-table by_node uplinks (n, c) ∙ none)

  -- no directory holds the node where no way from it is counted
  pub nowhere : ((q : ℕ × ℕ) → is_from by_node.compare (Included (n, 0)) q ≡ true → find_key by_node.compare q uplinks ≡ None) → holder names n ≡ None
  nowhere none = nothing_holds names n (λ c. no_ways c (none (n, c) (from_first n c)))

  module _ (key : ℕ × ℕ) (count : ℕ) (next : IsNextEntry by_node.compare (Included (n, 0)) uplinks key count) where
    none_before : (c : ℕ) → is_lt (by_node.compare (n, c) key) ≡ true → ways_count names n c ≡ 0
    none_before c before = no_ways c (none_found _ (λ some. let differ : true ≡ false = sym before ∙ next.least (n, c) (from_first n c) some in cc))

    -- the first way counted is one from the node
    pub held_first : (d : ℕ) → key ≡ (n, d) → holder names n ≡ Some d
    held_first d is =
        let way : get (table by_node uplinks) (n, d) ≡ Some count = get-table by_node uplinks (n, d) ∙ subst (λ k. find_key by_node.compare k uplinks ≡ Some count) is next.found in
        let counted_here : ways_count names n d ≡ count = sym (counted.uplinks n d) ∙ ap (λ o. unwrap_or o 0) way in
        let some = counted.positive (n, d) count way in
        least_holds names n d (omega (arith, counted_here, some)) (λ c less. none_before c (ap (λ k. is_lt (by_node.compare (n, c) k)) is ∙ before_in_node n c d less))

    -- the first way counted is one from a later node
    pub held_later : (key.0 ≡ n → ⊥) → holder names n ≡ None
    held_later other = nothing_holds names n (λ c. none_before c (before_node n c key.0 key.1 (omega (arith, at_or_after n key.0 key.1 next.within, other))))
