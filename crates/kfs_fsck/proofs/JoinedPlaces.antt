-- Extents that are joined place and write the same blocks as single ones.
use Rattle.std.proofs.Common.{◌≡◌, ℕ, zero, suc, ◌+◌, ◌*◌, ◌<◌, ◌≤◌, Bool, true, false, cond, List, [], ◌∷◌, ◌++◌, length, map, take, drop, append_assoc, refl, sym, ap, ◌∙◌, arith}
use Rattle.std.specs.List.{flat_map, AllByRecursion}
use Rattle.std.proofs.lemmas.List.{map-append, take-append-le, drop-append-le, length-drop}
use Rattle.kfs_model.specs.Placement.{numbers_from, below}
use Rattle.kfs_model.specs.Device.RawImage.{ExtentRow, place_in, bytes_in, places_in, blocks_in}
use Rattle.kfs_model.specs.Device.Canonical.{goes_on, as_one, with_extent, joined_extents}
use Rattle.kfs_model.proofs.DeviceLemmas.JoinedExtents.{GoesOn, it_goes_on}

-- ---- numbers in a row

numbers_both : (first count more : ℕ) → numbers_from first (count + more) ≡ numbers_from first count ++ numbers_from (first + count) more
numbers_both first zero more =
    let none : 0 + more ≡ more = omega arith in
    let same : first ≡ first + 0 = omega arith in
    ap (numbers_from first) none ∙ ap (λ n. numbers_from n more) same
numbers_both first (suc count) more =
    let one : suc count + more ≡ suc (count + more) = omega arith in
    let same : first + 1 + count ≡ first + suc count = omega arith in
    ap (numbers_from first) one ∙ ap (λ ns. first ∷ ns) (numbers_both (first + 1) count more ∙ ap (λ n. numbers_from (first + 1) count ++ numbers_from n more) same)

module _ {X : Type 0} where
  shifted : (f g : ℕ → X) (by first count : ℕ) → ((i : ℕ) → f (by + i) ≡ g i) → map f (numbers_from (by + first) count) ≡ map g (numbers_from first count)
  shifted f g by first zero same = refl
  shifted f g by first (suc count) same =
      let next : by + first + 1 ≡ by + (first + 1) = omega arith in
      let rest = ap (λ n. map f (numbers_from n count)) next ∙ shifted f g by (first + 1) count same in
      λ i. same first i ∷ rest i

  pub alike_below : (f g : ℕ → X) (first count : ℕ) → ((i : ℕ) → first ≤ i → i < first + count → f i ≡ g i) → map f (numbers_from first count) ≡ map g (numbers_from first count)
  alike_below f g first zero same = refl
  alike_below f g first (suc count) same =
      let here = same first (omega arith) (omega arith) in
      let rest = alike_below f g (first + 1) count (λ i least less. same i (omega arith) (omega arith)) in
      λ i. here i ∷ rest i

  -- what a function gives in two rows of numbers, one behind the other
  both_given : (f g h : ℕ → X) (count more : ℕ) → ((i : ℕ) → i < count → f i ≡ g i) → ((i : ℕ) → f (count + i) ≡ h i) → map f (below (count + more)) ≡ map g (below count) ++ map h (below more)
  both_given f g h count more front back =
      let start : 0 + count ≡ count + 0 = omega arith in
      ap (map f) (numbers_both 0 count more)
      ∙ map-append f (numbers_from 0 count) (numbers_from (0 + count) more)
      ∙ (λ i. alike_below f g 0 count (λ n least less. front n (omega arith)) i ++ (ap (λ n. map f (numbers_from n more)) start ∙ shifted f h count 0 more back) i)

-- ---- two extents as one

-- the extent has all its bytes
abbrev pub IsFull : ExtentRow → Type 0
IsFull row = length row.bytes ≡ row.count * 4096

module _ (row next : ExtentRow) (on : GoesOn row next) where
  places_of_both : places_in (as_one row next) ≡ places_in row ++ places_in next
  places_of_both = both_given (place_in (as_one row next)) (place_in row) (place_in next) row.count next.count (λ i less. refl) each
    where
      each : (i : ℕ) → place_in (as_one row next) (row.count + i) ≡ place_in next i
      each i =
          let at = on.block in
          let lies = on.place in
          let block : row.block + (row.count + i) ≡ next.block + i = omega (arith, at) in
          let place : row.place + (row.count + i) ≡ next.place + i = omega (arith, lies) in
          λ j. ((sym on.number j, block j), record { tier = sym on.tier j; place = place j })

  module _ (full : IsFull row) where
    cut_in_front : (i : ℕ) → i < row.count → take 4096 (drop (i * 4096) (row.bytes ++ next.bytes)) ≡ take 4096 (drop (i * 4096) row.bytes)
    cut_in_front i less =
        let long = length-drop (i * 4096) row.bytes in
        ap (take 4096) (drop-append-le (i * 4096) row.bytes next.bytes (omega (arith, full, less)))
        ∙ take-append-le 4096 (drop (i * 4096) row.bytes) next.bytes (omega (arith, full, less, long))

    cut_behind : (i : ℕ) → take 4096 (drop ((row.count + i) * 4096) (row.bytes ++ next.bytes)) ≡ take 4096 (drop (i * 4096) next.bytes)
    cut_behind i =
        let past : (row.count + i) * 4096 ≡ length row.bytes + i * 4096 = omega (arith, full) in
        ap (λ n. take 4096 (drop n (row.bytes ++ next.bytes))) past ∙ ap (take 4096) (drop_past row.bytes next.bytes (i * 4096))
      where
        drop_past : {X : Type 0} (xs ys : List X) (n : ℕ) → drop (length xs + n) (xs ++ ys) ≡ drop n ys
        drop_past [] ys n = let none : 0 + n ≡ n = omega arith in ap (λ m. drop m ys) none
        drop_past (x ∷ xs) ys n = let one : length (x ∷ xs) + n ≡ suc (length xs + n) = omega arith in ap (λ m. drop m (x ∷ xs ++ ys)) one ∙ drop_past xs ys n

    blocks_of_both : blocks_in (as_one row next) ≡ blocks_in row ++ blocks_in next
    blocks_of_both = both_given (bytes_in (as_one row next)) (bytes_in row) (bytes_in next) row.count next.count (λ i less. λ j. ((row.tier, row.place + i), cut_in_front i less j)) each
      where
        each : (i : ℕ) → bytes_in (as_one row next) (row.count + i) ≡ bytes_in next i
        each i =
            let lies = on.place in
            let place : row.place + (row.count + i) ≡ next.place + i = omega (arith, lies) in
            λ j. ((sym on.tier j, place j), cut_behind i j)

-- ---- all extents joined

module _ {X : Type 0} (list : ExtentRow → List X) (both : (row next : ExtentRow) → GoesOn row next → IsFull row → list (as_one row next) ≡ list row ++ list next) where
  with_one : (row : ExtentRow) (rows : List ExtentRow) → IsFull row → flat_map list (with_extent row rows) ≡ list row ++ flat_map list rows
  with_one row [] full = refl
  with_one row (next ∷ rows) full = at (goes_on row next) refl
    where
      at : (on : Bool) → goes_on row next ≡ on → flat_map list (cond on (as_one row next ∷ rows) (row ∷ next ∷ rows)) ≡ list row ++ (list next ++ flat_map list rows)
      at true is = ap (λ xs. xs ++ flat_map list rows) (both row next (it_goes_on row next is) full) ∙ append_assoc (list row) (list next) (flat_map list rows)
      at false is = refl

  of_joined : (rows : List ExtentRow) → AllByRecursion IsFull rows → flat_map list (joined_extents rows) ≡ flat_map list rows
  unfolding joined_extents
  of_joined [] full = refl
  of_joined (row ∷ rows) full = with_one row (joined_extents rows) full.0 ∙ ap (λ xs. list row ++ xs) (of_joined rows full.1)

-- joined extents place what the single ones do
pub same_places : (rows : List ExtentRow) → AllByRecursion IsFull rows → flat_map places_in (joined_extents rows) ≡ flat_map places_in rows
same_places = of_joined places_in (λ row next on full. places_of_both row next on)

-- and write the same
pub same_blocks : (rows : List ExtentRow) → AllByRecursion IsFull rows → flat_map blocks_in (joined_extents rows) ≡ flat_map blocks_in rows
same_blocks = of_joined blocks_in blocks_of_both
