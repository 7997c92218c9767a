-- How often keys stand in a list, counted in runs of the same key.
use Rattle.std.proofs.Common.{◌≡◌, ℕ, suc, ◌+◌, ◌<◌, Bool, true, false, cond, List, [], ◌∷◌, ◌++◌, Option, Some, None, refl, sym, ap, subst, ◌∙◌, arith}
use Rattle.std.specs.Prelude.{⊤, All, unwrap_or, count_by, slice_index_or}
use Rattle.std.proofs.lemmas.List.Sums.{sum_by-cons}
use Rattle.std.proofs.lemmas.List.Elements.{All-append, All-from_recursion, recursion_from_All}
use Rattle.std.specs.List.{AllByRecursion}
use Rattle.std.specs.List.Sorted.{IsSorted, IsPermutation}
use Rattle.std.proofs.lemmas.List.Sorted.{sum_by-IsPermutation}
use Rattle.std.specs.declared.cmp.Ordering.{Ordering}
use Rattle.std.specs.declared.cmp.Ordering.TheVariants.{Less, Equal, Greater}
use Rattle.std.specs.Ordering.{is_eq, is_lt, eq_by_cmp, ordering_reverse}
use Rattle.kfs_model.specs.Table.{Order, Table, numbers, empty, get}
use Rattle.kfs_maps.specs.declared.chunks.entries.KeyEdit.{KeyEdit}
use Rattle.kfs_maps.specs.Chunks.Edits.{edited}
use Rattle.kfs_maps.proofs.ChunksLemmas.Overlays.{overlaid_none}
use Rattle.kfs_image_nodes.specs.Indexes.{count_at}
use Rattle.kfs_image_nodes.specs.SortedRows.{goes_on, tallied_at, SayHowOften}

is_equal : (o : Ordering) → is_eq o ≡ true → o ≡ Equal
is_equal Less e = cc
is_equal Equal e = refl
is_equal Greater e = cc

-- one more of a run
longer : (b : Bool) (run : ℕ) → cond b run 0 + cond b 1 0 ≡ cond b (run + 1) 0
longer true run = refl
longer false run = refl

nothing : (b : Bool) → ◌≡◌ {A = ℕ} (cond b 0 0) 0
nothing true = refl
nothing false = refl

-- no count is set
pub none_tallied : (said : List (ℕ × Option ℕ)) → said ≡ [] → (d : ℕ) → tallied_at said d ≡ 0
unfolding get
none_tallied said none d = ap (λ (t : Table numbers ℕ). count_at t d) (overlaid_none empty said none)

module _ {K : Type 0} (R : Order K) where
  -- how many keys are counted that stand in front of these and are the same as the first of them
  abbrev pub held : (run : ℕ) → List K → K → ℕ
  held run [] q = 0
  held run (key ∷ later) q = cond (eq_by_cmp R.compare q key) run 0

  -- how often a key stands in the list
  abbrev pub often : K → List K → ℕ
  often q keys = count_by (λ k. eq_by_cmp R.compare q k) keys

  none_held : (q : K) (keys : List K) → held 0 keys q ≡ 0
  none_held q [] = refl
  none_held q (key ∷ later) = nothing (eq_by_cmp R.compare q key)

  -- before the first key nothing is counted
  pub before_all : (q : K) (keys : List K) (count : ℕ) → count ≡ 0 → count + held 0 keys q + often q keys ≡ often q keys
  before_all q keys count zero = let none = none_held q keys in omega (arith, none, zero)

  -- the first key is counted, and is the same as the next one
  pub run_on : (q w : K) (rest : List K) (run old all : ℕ) → goes_on R w rest ≡ true → old + held run (w ∷ rest) q + often q (w ∷ rest) ≡ all → old + held (run + 1) rest q + often q rest ≡ all
  run_on q w [] run old all on so_far = let never : false ≡ true = on in cc
  run_on q w (v ∷ vs) run old all on so_far =
      let same : v ≡ w = R.exact v w (is_equal (R.compare v w) on) in
      let first = sum_by-cons (λ k. cond (eq_by_cmp R.compare q k) 1 0) w (v ∷ vs) in
      let here = ap (λ k. cond (eq_by_cmp R.compare q k) (run + 1) 0) same in
      let more = longer (eq_by_cmp R.compare q w) run in
      omega (arith, first, here, more, so_far)

  -- the first key is counted, and is the last of its run
  pub run_ends : (q w : K) (rest : List K) (run old new all : ℕ) → new ≡ old + cond (eq_by_cmp R.compare q w) (run + 1) 0 → old + held run (w ∷ rest) q + often q (w ∷ rest) ≡ all → new + held 0 rest q + often q rest ≡ all
  run_ends q w rest run old new all said so_far =
      let first = sum_by-cons (λ k. cond (eq_by_cmp R.compare q k) 1 0) w rest in
      let none = none_held q rest in
      let more = longer (eq_by_cmp R.compare q w) run in
      omega (arith, first, none, more, said, so_far)

  pub all_runs : (q : K) (left : List K) (run count all : ℕ) → left ≡ [] → count + held run left q + often q left ≡ all → count ≡ all
  all_runs q left run count all none so_far =
      let done = ap (λ keys. held run keys q) none in
      let rest = ap (λ keys. often q keys) none in
      omega (arith, done, rest, so_far)

  -- each edit's key is below the first of the keys
  abbrev pub AreBelow : List (KeyEdit K ℕ) → List K → Type 0
  AreBelow edits [] = ⊤
  AreBelow edits (key ∷ later) = All (λ e. R.compare e.key key ≡ Less) edits

  pub none_below : (keys : List K) → AreBelow [] keys
  none_below [] = tt
  none_below (key ∷ later) = All-from_recursion (λ e. R.compare e.key key ≡ Less) [] tt

  -- they stay below where the run goes on
  pub same_below : (w : K) (rest : List K) (edits : List (KeyEdit K ℕ)) → goes_on R w rest ≡ true → All (λ e. R.compare e.key w ≡ Less) edits → AreBelow edits rest
  same_below w [] edits on below = tt
  same_below w (v ∷ vs) edits on below = subst (λ k. All (λ e. R.compare e.key k ≡ Less) edits) (sym (R.exact v w (is_equal (R.compare v w) on))) below

  pub none_positive : (q : K) (count : ℕ) → edited R.compare [] q None ≡ Some count → 0 < count
  none_positive q count is = let never : ◌≡◌ {A = Option ℕ} None (Some count) = is in cc

  -- what edits say where one more is made behind them
  pub edited_further : (edits : List (KeyEdit K ℕ)) (e : KeyEdit K ℕ) (q : K) (there : Option ℕ) → edited R.compare (edits ++ e ∷ []) q there ≡ cond (eq_by_cmp R.compare q e.key) e.value (edited R.compare edits q there)
  edited_further [] e q there = refl
  edited_further (x ∷ xs) e q there = edited_further xs e q (cond (eq_by_cmp R.compare q x.key) x.value there)

  -- edits of lower keys say nothing
  unsaid : (edits : List (KeyEdit K ℕ)) (q : K) (there : Option ℕ) → AllByRecursion (λ e. R.compare e.key q ≡ Less) edits → edited R.compare edits q there ≡ there
  unsaid [] q there below = refl
  unsaid (x ∷ xs) q there below =
      let above : R.compare q x.key ≡ Greater = R.total.antisymm q x.key ∙ ap ordering_reverse below.0 in
      ap (λ o. edited R.compare xs q (cond (is_eq o) x.value there)) above ∙ unsaid xs q there below.1

  -- the next key is above the first where it isn't the same
  rises : (w v : K) → is_lt (R.compare v w) ≡ false → eq_by_cmp R.compare v w ≡ false → R.compare w v ≡ Less
  rises w v not_below other = R.total.antisymm w v ∙ ap ordering_reverse (at (R.compare v w) not_below other)
    where
      at : (o : Ordering) → is_lt o ≡ false → is_eq o ≡ false → o ≡ Greater
      at Less not_below other = cc
      at Equal not_below other = cc
      at Greater not_below other = refl

  -- a list in order stays so without its first key
  pub sorted_rest : (w : K) (rest : List K) → IsSorted R.compare (w ∷ rest) → IsSorted R.compare rest
  sorted_rest w rest sorted = λ k d least within.
      let next : suc k + 1 ≡ suc (k + 1) = omega arith in
      subst (λ n. is_lt (R.compare (slice_index_or (w ∷ rest) n d) (slice_index_or rest k d)) ≡ false) next (sorted (suc k) d (omega arith) (omega (arith, within)))

  module _ (edits new : List (KeyEdit K ℕ)) (w : K) (rest : List K) (many : ℕ) (added : new ≡ edits ++ record { key = w; value = Some many } ∷ []) (below : All (λ e. R.compare e.key w ≡ Less) edits) where
    -- an edit for the end of a run is below the next key
    pub below_next : goes_on R w rest ≡ false → IsSorted R.compare (w ∷ rest) → AreBelow new rest
    below_next ends sorted = at rest ends sorted
      where
        lower : (v : K) → R.compare w v ≡ Less → (es : List (KeyEdit K ℕ)) → AllByRecursion (λ e. R.compare e.key w ≡ Less) es → AllByRecursion (λ e. R.compare e.key v ≡ Less) es
        lower v up [] all = tt
        lower v up (e ∷ es) all = (R.total.trans e.key w v all.0 up, lower v up es all.1)

        at : (rest : List K) → goes_on R w rest ≡ false → IsSorted R.compare (w ∷ rest) → AreBelow new rest
        at [] ends sorted = tt
        at (v ∷ vs) ends sorted =
            let up : R.compare w v ≡ Less = rises w v (sorted 0 w (omega arith) (omega arith)) ends in
            let last : List (KeyEdit K ℕ) = record { key = w; value = Some many } ∷ [] in
            subst (λ es. All (λ e. R.compare e.key v ≡ Less) es) (sym added)
            (All-append (λ e. R.compare e.key v ≡ Less) edits last
            (All-from_recursion (λ e. R.compare e.key v ≡ Less) edits (lower v up edits (recursion_from_All (λ e. R.compare e.key w ≡ Less) edits below)))
            (All-from_recursion (λ e. R.compare e.key v ≡ Less) last (up, tt)))

    said : (q : K) → edited R.compare new q None ≡ cond (eq_by_cmp R.compare q w) (Some many) (edited R.compare edits q None)
    said q = ap (λ es. edited R.compare es q None) added ∙ edited_further edits _ q None

    -- it says how many, and the others say what they said
    pub said_more : (q : K) → unwrap_or (edited R.compare new q None) 0 ≡ unwrap_or (edited R.compare edits q None) 0 + cond (eq_by_cmp R.compare q w) many 0
    said_more q = ap (λ o. unwrap_or o 0) (said q) ∙ at (R.compare q w) refl
      where
        nothing_said : (o : Ordering) → R.compare q w ≡ o → o ≡ Equal → unwrap_or (edited R.compare edits q None) 0 ≡ 0
        nothing_said o is equal =
            let same : q ≡ w = R.exact q w (is ∙ equal) in
            ap (λ o. unwrap_or o 0) (ap (λ k. edited R.compare edits k None) same ∙ unsaid edits w None (recursion_from_All (λ e. R.compare e.key w ≡ Less) edits below))

        at : (o : Ordering) → R.compare q w ≡ o → unwrap_or (cond (is_eq o) (Some many) (edited R.compare edits q None)) 0 ≡ unwrap_or (edited R.compare edits q None) 0 + cond (is_eq o) many 0
        at Less is = omega arith
        at Equal is = let none = nothing_said Equal is refl in omega (arith, none)
        at Greater is = omega arith

    pub still_positive : 0 < many → ((q : K) (count : ℕ) → edited R.compare edits q None ≡ Some count → 0 < count) → (q : K) (count : ℕ) → edited R.compare new q None ≡ Some count → 0 < count
    still_positive some all q count is = at (eq_by_cmp R.compare q w) (sym (said q) ∙ is)
      where
        at : (b : Bool) → cond b (Some many) (edited R.compare edits q None) ≡ Some count → 0 < count
        at true is = let same : many ≡ count = cc is in omega (arith, some, same)
        at false is = all q count is

  -- a list in another order has each key as often
  pub said_of : (keys others : List K) (edits : List (KeyEdit K ℕ)) → IsPermutation keys others → SayHowOften R others edits → SayHowOften R keys edits
  said_of keys others edits moved said = record {
    positive = said.positive;
    counts = λ q. said.counts q ∙ sum_by-IsPermutation (λ k. cond (eq_by_cmp R.compare q k) 1 0) keys others moved;
  }
