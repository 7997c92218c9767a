-- Rows in the order of their keys, each with a listed key, are no more than the list is long.
use Rattle.std.proofs.Common.{◌≡◌, ℕ, ◌+◌, ◌<◌, ◌≤◌, nat_eq, nat_lt, count_by, ◌||◌, Bool, true, false, cond, T, List, [], ◌∷◌, length, Option, Some, refl, sym, ap, subst, ◌∙◌, arith}
use Rattle.std.specs.Cmp.{tied_itself}
use Rattle.std.specs.List.{AllByRecursion, list_any}
use Rattle.std.specs.Ordering.{is_lt}
use Rattle.std.proofs.lemmas.Bool.Decides.{nat_tests}
use Rattle.std.proofs.lemmas.List.Sums.{sum_by-cons}
use Rattle.std.specs.FinMap.Entries.{below_all, find, is_sorted}
use Rattle.kfs_model.specs.Plan.{AreDifferences}
use Rattle.kfs_model.specs.Table.{Order, numbers}
use Rattle.kfs_model.proofs.Exact.{IsExact, numbers-exact}
use Rattle.kfs_model.proofs.Tables.{find_behind, find_head, left_part, right_part}
use Rattle.kfs_pieces.specs.declared.log.FileSize.{FileSize}
use Rattle.kfs_pieces.specs.RangeCounts.{grown_count}
use Rattle.kfs_pieces.specs.Sizes.{SizesAscend}

pub none_first : (a b : Bool) → (a || b) ≡ false → a ≡ false
none_first true b none = none
none_first false b none = refl

pub none_rest : (a b : Bool) → (a || b) ≡ false → b ≡ false
none_rest true b none = cc
none_rest false b none = none

module _ {K : Type 0} (R : Order K) (same : K → K → Bool) (exact : IsExact same) where
  -- the list without the first place where the key stands
  without : K → List K → List K
  without key [] = []
  without key (k ∷ ks) = cond (same key k) ks (k ∷ without key ks)

  shorter : (key : K) (ks : List K) → list_any (same key) ks ≡ true → length ks ≡ length (without key ks) + 1
  unfolding without
  shorter key [] any = cc
  shorter key (k ∷ ks) any = at (same key k) any (shorter key ks)
    where
      at : (b : Bool) → (b || list_any (same key) ks) ≡ true → (list_any (same key) ks ≡ true → length ks ≡ length (without key ks) + 1) → length (k ∷ ks) ≡ length (cond b ks (k ∷ without key ks)) + 1
      at true any rest = omega arith
      at false any rest = omega (arith, rest any)

  still_listed : (key other : K) (ks : List K) → same other key ≡ false → list_any (same other) ks ≡ true → list_any (same other) (without key ks) ≡ true
  unfolding without
  still_listed key other [] apart any = any
  still_listed key other (k ∷ ks) apart any = at (same key k) refl (same other k) refl any (still_listed key other ks apart)
    where
      at : (b : Bool) → same key k ≡ b → (c : Bool) → same other k ≡ c → (c || list_any (same other) ks) ≡ true → (list_any (same other) ks ≡ true → list_any (same other) (without key ks) ≡ true)
          → list_any (same other) (cond b ks (k ∷ without key ks)) ≡ true
      at true is true tie any rest =
          let alike : key ≡ k = (exact.decides key k).0 is in
          let never : false ≡ true = sym apart ∙ ap (same other) alike ∙ tie in
          absurd cc
      at true is false tie any rest = any
      at false is true tie any rest = ap (λ c. c || list_any (same other) (without key ks)) tie
      at false is false tie any rest = ap (λ c. c || list_any (same other) (without key ks)) tie ∙ rest any

  apart_above : (key other : K) → T (is_lt (R.compare key other)) → same other key ≡ false
  apart_above key other above = at (same other key) refl
    where
      at : (b : Bool) → same other key ≡ b → b ≡ false
      at true is =
          let alike : other ≡ key = (exact.decides other key).0 is in
          absurd (subst (λ o. T (is_lt o)) (tied_itself R.total key) (subst (λ k. T (is_lt (R.compare key k))) alike above))
      at false is = refl

  module _ {X : Type 0} where
    abbrev AreListed : List (K × X) → List K → Type 0
    AreListed es ks = AllByRecursion (λ e. list_any (same e.0) ks ≡ true) es

    behind : (key : K) (es : List (K × X)) (ks : List K) → T (below_all R.compare key es) → AreListed es ks → AreListed es (without key ks)
    behind key [] ks below all = tt
    behind key (e ∷ es) ks below all = (still_listed key e.0 ks (apart_above key e.0 (left_part _ _ below)) all.0, behind key es ks (right_part _ _ below) all.1)

    few : (es : List (K × X)) (ks : List K) → T (is_sorted R.compare es) → AreListed es ks → length es ≤ length ks
    few [] ks sorted all = omega arith
    few (e ∷ es) ks sorted all =
        let rest : length es ≤ length (without e.0 ks) = few es (without e.0 ks) (right_part _ _ sorted) (behind e.0 es ks (left_part _ _ sorted) all.1) in
        omega (arith, rest, shorter e.0 ks all.0)

    found_all : (P : K → Type 0) (es : List (K × X)) → T (is_sorted R.compare es) → ((key : K) (value : X) → find R.compare key es ≡ Some value → P key) → AllByRecursion (λ e. P e.0) es
    found_all P [] sorted h = tt
    found_all P (e ∷ es) sorted h = (h e.0 e.1 (find_head R e es), found_all P es (right_part _ _ sorted) (λ key value is. h key value (find_behind R key value e es sorted is)))

  -- the differences are no more than the keys at which there may be one
  pub few_differences : {X Y : Type 0} (now : Option X → Y) (before after : K → Option X) (rows : List (K × Y)) (ks : List K) → AreDifferences R now before after rows
      → ((key : K) → list_any (same key) ks ≡ false → before key ≡ after key) → length rows ≤ length ks
  few_differences {Y = Y} now before after rows ks differs kept =
      let sorted : T (is_sorted R.compare rows) = subst T (sym differs.ascending) tt in
      few rows ks sorted (found_all (λ key. list_any (same key) ks ≡ true) rows sorted (λ key value is. at key value is (list_any (same key) ks) refl))
    where
      at : (key : K) (value : Y) → find R.compare key rows ≡ Some value → (b : Bool) → list_any (same key) ks ≡ b → b ≡ true
      at key value is true listed = refl
      at key value is false listed = let none = differs.unchanged key (kept key listed) in cc

-- ---- files that grew

-- the file is listed if it grew
abbrev pub IsListedGrown : List ℕ → FileSize → Type 0
IsListedGrown ks s = s.before < s.after → list_any (nat_eq s.number) ks ≡ true

listed_later : (k least : ℕ) (ss : List FileSize) (ks : List ℕ) → k < least → SizesAscend least ss → AllByRecursion (IsListedGrown ks) ss → AllByRecursion (IsListedGrown (without numbers nat_eq numbers-exact k ks)) ss
listed_later k least [] ks h ascend all = tt
listed_later k least (s ∷ ss) ks h ascend all =
    let low = ascend.0 in
    let apart : nat_eq s.number k ≡ false = grind (arith, nat_tests) in
    (λ grew. still_listed numbers nat_eq numbers-exact k s.number ks apart (all.0 grew), listed_later k (s.number + 1) ss ks (omega arith) ascend.1 all.1)

abbrev one_if : Bool → ℕ
one_if b = cond b 1 0

-- files that grew, each once, are no more than the numbers among which theirs are
pub few_grown : (least : ℕ) (ss : List FileSize) (ks : List ℕ) → SizesAscend least ss → AllByRecursion (IsListedGrown ks) ss → grown_count ss ≤ length ks
few_grown least [] ks ascend all = omega arith
few_grown least (s ∷ ss) ks ascend all = at (nat_lt s.before s.after) refl (λ ks all. few_grown (s.number + 1) ss ks ascend.1 all)
  where
    counts : grown_count (s ∷ ss) ≡ one_if (nat_lt s.before s.after) + grown_count ss
    counts = sum_by-cons (λ (s : FileSize). one_if (nat_lt s.before s.after)) s ss

    at : (b : Bool) → nat_lt s.before s.after ≡ b → ((ks : List ℕ) → AllByRecursion (IsListedGrown ks) ss → grown_count ss ≤ length ks) → grown_count (s ∷ ss) ≤ length ks
    at true is rest =
        let grew : s.before < s.after = grind (arith, nat_tests) in
        let here : s.number < s.number + 1 = omega arith in
        let fewer = rest (without numbers nat_eq numbers-exact s.number ks) (listed_later s.number (s.number + 1) ss ks here ascend.1 all.1) in
        omega (arith, counts, ap one_if is, fewer, shorter numbers nat_eq numbers-exact s.number ks (all.0 grew))
    at false is rest = omega (arith, counts, ap one_if is, rest ks all.1)
