-- A block is written where it has a byte of a payload, or a zero byte beside another one; and how many blocks ranges have.
use Rattle.std.proofs.Common.{◌≡◌, ℕ, zero, suc, ◌+◌, ◌-◌, ◌*◌, ◌<◌, ◌≤◌, ◌⊎◌, inl, inr, ⊎_elim, max, Bool, true, false, cond, not, ◌&&◌, ◌||◌, leb, List, [], ◌∷◌, length, get_or, min, take, drop, drop-drop, length-drop, filter, map, refl, sym, ap, ◌∙◌, arith}
use Rattle.std.specs.List.{list_any, AllByRecursion}
use Rattle.std.proofs.Math.Bool.{and-true}
use Rattle.std.proofs.lemmas.Bool.{or_cases, or_left, or_right}
use Rattle.std.proofs.lemmas.List.{get_or-take, get_or-drop, length-take}
use Rattle.std.proofs.lemmas.Bool.Decides.{nat_tests}
use Rattle.kfs_model.specs.Run.{Mark, Base, Zero, Payload}
use Rattle.kfs_model.specs.Plan.{is_base}
use Rattle.kfs_model.specs.Limits.{block_size}
use Rattle.kfs_model.specs.Placement.{is_zero, is_payload, is_written, block_count, blocks_from, blocks_of}
use Rattle.kfs_pieces.specs.TouchedBlocks.{BlockInterval, counted}
use Rattle.kfs_model.proofs.Tape.{below_or_not}

-- ---- turns, and ranges of blocks

abbrev pub differ : Bool → Bool → Bool
differ true b = not b
differ false b = b

-- whether a zero byte and another one stand side by side, the byte before these being zero or not
unfoldable turns_from : (was_zero : Bool) → List Mark → Bool
turns_from was [] = false
turns_from was (x ∷ xs) = differ was (is_zero x) || turns_from (is_zero x) xs

abbrev has_turn : List Mark → Bool
has_turn [] = false
has_turn (x ∷ xs) = turns_from (is_zero x) xs

abbrev pub has_block : (block : ℕ) → BlockInterval → Bool
has_block block r = leb r.first block && leb block r.last

-- in order: each begins where the one before ends, or behind it
abbrev pub InOrder : (least : ℕ) → List BlockInterval → Type 0
InOrder least [] = Unit {0}
InOrder least (r ∷ rs) = (least ≤ r.first) × (r.first ≤ r.last) × InOrder r.last rs

-- how many of so many blocks, from a block on, pass the test
unfoldable count_that : (ℕ → Bool) → (count from : ℕ) → ℕ
count_that test zero from = 0
count_that test (suc count) from = cond (test from) 1 0 + count_that test count (from + 1)

-- ---- one block

abbrev both_sides : List Mark → Bool
both_sides xs = list_any is_zero xs && list_any is_base xs

-- where no byte is a payload's, bytes behind a zero byte turn where one is as before
turn_behind_zero : (xs : List Mark) → list_any is_payload xs ≡ false → turns_from true xs ≡ list_any is_base xs
unfolding turns_from
turn_behind_zero [] none = refl
turn_behind_zero (Base n p ∷ xs) none = refl
turn_behind_zero (Zero ∷ xs) none = turn_behind_zero xs none
turn_behind_zero (Payload e p ∷ xs) none = cc

turn_behind_base : (xs : List Mark) → list_any is_payload xs ≡ false → turns_from false xs ≡ list_any is_zero xs
unfolding turns_from
turn_behind_base [] none = refl
turn_behind_base (Base n p ∷ xs) none = turn_behind_base xs none
turn_behind_base (Zero ∷ xs) none = refl
turn_behind_base (Payload e p ∷ xs) none = cc

turn_without_payload : (xs : List Mark) → list_any is_payload xs ≡ false → has_turn xs ≡ both_sides xs
turn_without_payload [] none = refl
turn_without_payload (Base n p ∷ xs) none = turn_behind_base xs none ∙ sym (and-true (list_any is_zero xs))
turn_without_payload (Zero ∷ xs) none = turn_behind_zero xs none
turn_without_payload (Payload e p ∷ xs) none = cc

-- a block is written where a byte of it is a payload's, or where a zero byte stands beside another one
written_by_turn : (xs : List Mark) → is_written xs ≡ (list_any is_payload xs || has_turn xs)
written_by_turn xs = at (list_any is_payload xs) refl
  where
    at : (b : Bool) → list_any is_payload xs ≡ b → (b || both_sides xs) ≡ (b || has_turn xs)
    at true e = refl
    at false e = sym (turn_without_payload xs e)

-- ---- how many blocks there are

count_none : (test : ℕ → Bool) (count from : ℕ) → ((b : ℕ) → from ≤ b → b < from + count → test b ≡ false) → count_that test count from ≡ 0
unfolding count_that
count_none test zero from none = refl
count_none test (suc count) from none =
    let here = none from (omega arith) (omega arith) in
    let rest = count_none test count (from + 1) (λ b low high. none b (omega arith) (omega arith)) in
    (λ i. cond (here i) 1 0 + rest i)

count_all : (test : ℕ → Bool) (count from : ℕ) → ((b : ℕ) → from ≤ b → b < from + count → test b ≡ true) → count_that test count from ≡ count
unfolding count_that
count_all test zero from all = refl
count_all test (suc count) from all =
    let here = all from (omega arith) (omega arith) in
    let rest = count_all test count (from + 1) (λ b low high. all b (omega arith) (omega arith)) in
    let sum : 1 + count ≡ suc count = omega arith in
    (λ i. cond (here i) 1 0 + rest i) ∙ sum

count_more : (test : ℕ → Bool) (count more from : ℕ) → count_that test (count + more) from ≡ count_that test count from + count_that test more (from + count)
unfolding count_that
count_more test zero more from =
    let none : 0 + more ≡ more = omega arith in
    let here : from ≡ from + 0 = omega arith in
    let plus : count_that test more (from + 0) ≡ 0 + count_that test more (from + 0) = omega arith in
    (λ i. count_that test (none i) (here i)) ∙ plus
count_more test (suc count) more from =
    let next : from + 1 + count ≡ from + suc count = omega arith in
    let one : suc count + more ≡ suc (count + more) = omega arith in
    let plus : cond (test from) 1 0 + (count_that test count (from + 1) + count_that test more (from + suc count)) ≡ cond (test from) 1 0 + count_that test count (from + 1) + count_that test more (from + suc count) = omega arith in
    ap (λ n. count_that test n from) one
    ∙ ap (λ n. cond (test from) 1 0 + n) (count_more test count more (from + 1) ∙ ap (λ n. count_that test count (from + 1) + count_that test more n) next)
    ∙ plus

count_same : (test other : ℕ → Bool) (count from : ℕ) → ((b : ℕ) → from ≤ b → b < from + count → test b ≡ other b) → count_that test count from ≡ count_that other count from
unfolding count_that
count_same test other zero from same = refl
count_same test other (suc count) from same =
    let here = same from (omega arith) (omega arith) in
    let rest = count_same test other count (from + 1) (λ b low high. same b (omega arith) (omega arith)) in
    (λ i. cond (here i) 1 0 + rest i)

-- ---- ranges of blocks

module _ (b : ℕ) where
  before_range : (f l : ℕ) → b < f → (leb f b && leb b l) ≡ false
  before_range f l h = grind (arith, nat_tests)

  in_range : (f l : ℕ) → f ≤ b → b ≤ l → (leb f b && leb b l) ≡ true
  in_range f l h k = grind (arith, nat_tests)

  behind_range : (f l : ℕ) → l < b → (leb f b && leb b l) ≡ false
  behind_range f l h = grind (arith, nat_tests)

  none_below : (least : ℕ) (rs : List BlockInterval) → InOrder least rs → b < least → list_any (has_block b) rs ≡ false
  none_below least [] order h = refl
  none_below least (r ∷ rs) order h =
      let first = order.0 in
      let last = order.1 in
      (λ i. before_range r.first r.last (let k : b < r.first = omega arith in k) i || none_below r.last rs order.2 (let k : b < r.last = omega arith in k) i)

max_left : (a b : ℕ) → b ≤ a → max a b ≡ a
max_left a b h = omega arith

max_right : (a b : ℕ) → a ≤ b → max a b ≡ b
max_right a b h = omega arith

module _ (r : BlockInterval) (rs : List BlockInterval) (next bound : ℕ) (first : r.first ≤ r.last) where
  abbrev has_any : ℕ → Bool
  has_any b = list_any (has_block b) (r ∷ rs)

  abbrev has_later : ℕ → Bool
  has_later b = list_any (has_block b) rs

  no_more_in : (b : ℕ) → r.last < b → has_any b ≡ has_later b
  no_more_in b h = ap (λ t. t || has_later b) (behind_range b r.first r.last h)

  module _ (order : InOrder r.last rs) (within : r.last < bound) where
    some_new : counted (r.last + 1) rs ≡ count_that has_later (bound - (r.last + 1)) (r.last + 1) → max r.first next < r.last + 1
        → (r.last + 1 - max r.first next) + counted (max next (r.last + 1)) rs ≡ count_that has_any (bound - next) next
    some_new more new =
        let f = max r.first next in
        let l = r.last + 1 in
        let low : next ≤ f = omega arith in
        let here : next + (f - next) ≡ f = omega arith in
        let there : f + (l - f) ≡ l = omega arith in
        let parts : bound - next ≡ (f - next) + ((l - f) + (bound - l)) = omega arith in
        let last : max next l ≡ l = omega arith in
        let zeros = count_none has_any (f - next) next (λ b low high. (λ i. before_range b r.first r.last (let k : b < r.first = omega arith in k) i || none_below b r.last rs order (let k : b < r.last = omega arith in k) i)) in
        let ones = count_all has_any (l - f) f (λ b low high. ap (λ t. t || has_later b) (in_range b r.first r.last (omega arith) (omega arith))) in
        let rest = count_same has_any has_later (bound - l) l (λ b low high. no_more_in b (omega arith)) in
        let plus : (l - f) + count_that has_later (bound - l) l ≡ 0 + ((l - f) + count_that has_later (bound - l) l) = omega arith in
        ap (λ n. (l - f) + counted n rs) last
        ∙ ap (λ n. (l - f) + n) more
        ∙ plus
        ∙ sym (ap (λ n. count_that has_any n next) parts
        ∙ count_more has_any (f - next) ((l - f) + (bound - l)) next
        ∙ (λ i. zeros i + count_that has_any ((l - f) + (bound - l)) (here i))
        ∙ ap (λ n. 0 + n) (count_more has_any (l - f) (bound - l) f ∙ (λ i. ones i + count_that has_any (bound - l) (there i)) ∙ ap (λ n. (l - f) + n) rest))

  none_new : counted next rs ≡ count_that has_later (bound - next) next → r.last + 1 ≤ max r.first next
      → (r.last + 1 - max r.first next) + counted (max next (r.last + 1)) rs ≡ count_that has_any (bound - next) next
  none_new more old =
      let past : r.last + 1 ≤ next = omega arith in
      let none : r.last + 1 - max r.first next ≡ 0 = omega arith in
      let same : max next (r.last + 1) ≡ next = omega arith in
      let plus : 0 + counted next rs ≡ counted next rs = omega arith in
      (λ i. none i + counted (same i) rs) ∙ plus ∙ more ∙ sym (count_same has_any has_later (bound - next) next (λ b low high. no_more_in b (omega arith)))

-- ranges in order have as many blocks as the count of them says
counted_is : (rs : List BlockInterval) (least next bound : ℕ) → InOrder least rs → AllByRecursion (λ (r : BlockInterval). r.last < bound) rs → counted next rs ≡ count_that (λ b. list_any (has_block b) rs) (bound - next) next
unfolding counted
counted_is [] least next bound order within = sym (count_none (λ b. false) (bound - next) next (λ b low high. refl))
counted_is (r ∷ rs) least next bound order within =
    ⊎_elim (some_new r rs next bound order.1 order.2 within.0 (counted_is rs r.last (r.last + 1) bound order.2 within.1))
    (none_new r rs next bound order.1 (counted_is rs r.last next bound order.2 within.1))
    (below_or_not (max r.first next) (r.last + 1))

-- ---- the blocks of a file

-- the marks of a block
abbrev pub block_at : List Mark → (block : ℕ) → List Mark
block_at marks block = take block_size (drop (4096 * block) marks)

abbrev pub numbered : (number : ℕ) → ℕ × List Mark → ℕ × ℕ
numbered number block = (number, block.0)

abbrev pub passes : (List Mark → Bool) → ℕ × List Mark → Bool
passes test block = test block.1

filter_long : {X Y : Type 0} (f : X → Y) (p : X → Bool) (x : X) (xs : List X) → length (map f (filter p (x ∷ xs))) ≡ cond (p x) 1 0 + length (map f (filter p xs))
filter_long f p x xs = at (p x)
  where
    at : (b : Bool) → length (map f (cond b (x ∷ filter p xs) (filter p xs))) ≡ cond b 1 0 + length (map f (filter p xs))
    at true = let e : suc (length (map f (filter p xs))) ≡ 1 + length (map f (filter p xs)) = omega arith in e
    at false = let e : length (map f (filter p xs)) ≡ 0 + length (map f (filter p xs)) = omega arith in e

blocks_long : (test : List Mark → Bool) (n count first : ℕ) (marks : List Mark)
    → length (map (numbered n) (filter (passes test) (blocks_from count first marks))) ≡ count_that (λ k. test (take block_size (drop (4096 * (k - first)) marks))) count first
unfolding count_that
blocks_long test n zero first marks = refl
blocks_long test n (suc count) first marks =
    let here : 0 ≡ 4096 * (first - first) = omega arith in
    filter_long (numbered n) (passes test) (first, take block_size marks) (blocks_from count (first + 1) (drop block_size marks))
    ∙ (λ i. cond (test (take block_size (drop (here i) marks))) 1 0
    + (blocks_long test n count (first + 1) (drop block_size marks)
    ∙ count_same (λ k. test (take block_size (drop (4096 * (k - (first + 1))) (drop block_size marks)))) (λ k. test (take block_size (drop (4096 * (k - first)) marks))) count (first + 1)
    (λ k low high. let sum : 4096 + 4096 * (k - (first + 1)) ≡ 4096 * (k - first) = omega arith in
    ap (λ xs. test (take block_size xs)) (drop-drop (4096 * (k - (first + 1))) 4096 marks ∙ ap (λ n. drop n marks) sum))) i)

-- Where ranges in order have exactly the written blocks of a file, the count of them is that of its written blocks.
pub file_needs : (n : ℕ) (marks : List Mark) (rs : List BlockInterval) → InOrder 0 rs → AllByRecursion (λ (r : BlockInterval). r.last < block_count (length marks)) rs
    → ((k : ℕ) → k < block_count (length marks) → list_any (has_block k) rs ≡ is_written (block_at marks k))
    → length (map (numbered n) (filter (passes is_written) (blocks_of marks))) ≡ counted 0 rs
file_needs n marks rs order within exact =
    let from_none : (k : ℕ) → k - 0 ≡ k = λ k. omega arith in
    let all : block_count (length marks) - 0 ≡ block_count (length marks) = omega arith in
    blocks_long is_written n (block_count (length marks)) 0 marks
    ∙ count_same (λ k. is_written (take block_size (drop (4096 * (k - 0)) marks))) (λ k. list_any (has_block k) rs) (block_count (length marks)) 0
    (λ k low high. ap (λ j. is_written (take block_size (drop (4096 * j) marks))) (from_none k) ∙ sym (exact k (omega arith)))
    ∙ sym (counted_is rs 0 0 (block_count (length marks)) order within ∙ ap (λ c. count_that (λ k. list_any (has_block k) rs) c 0) all)

-- ---- where a block is written, by places in the file

-- two cells side by side of which one is zero and the other isn't, the second at this place of the list
abbrev pub TurnsAt : List Mark → (place : ℕ) → Type 0
TurnsAt xs place = differ (is_zero (get_or xs (place - 1) Zero)) (is_zero (get_or xs place Zero)) ≡ true

turn_from : (xs : List Mark) → has_turn xs ≡ true → (j : ℕ) × (1 ≤ j) × (j < length xs) × TurnsAt xs j
unfolding turns_from
turn_from [] h = cc
turn_from (x ∷ []) h = cc
turn_from (x ∷ y ∷ zs) h = ⊎_elim
    (λ (here : differ (is_zero x) (is_zero y) ≡ true). (1, (let e : 1 ≤ 1 = omega arith in e), (let f : 1 < suc (suc (length zs)) = omega arith in f), here))
    (λ (later : has_turn (y ∷ zs) ≡ true).
    let (j, least, below, turns) = turn_from (y ∷ zs) later in
    let back : suc j - 1 ≡ suc (j - 1) = omega arith in
    (suc j, (let e : 1 ≤ suc j = omega arith in e), (let f : suc j < suc (suc (length zs)) = omega arith in f), ap (λ i. differ (is_zero (get_or (x ∷ y ∷ zs) i Zero)) (is_zero (get_or (y ∷ zs) j Zero))) back ∙ turns))
    (or_cases (differ (is_zero x) (is_zero y)) (has_turn (y ∷ zs)) h)

from_turn : (xs : List Mark) (j : ℕ) → 1 ≤ j → j < length xs → TurnsAt xs j → has_turn xs ≡ true
unfolding turns_from
from_turn [] j least below turns = absurd (omega arith)
from_turn (x ∷ []) zero least below turns = absurd (omega arith)
from_turn (x ∷ []) (suc j) least below turns = absurd (omega arith)
from_turn (x ∷ y ∷ zs) zero least below turns = absurd (omega arith)
from_turn (x ∷ y ∷ zs) (suc zero) least below turns = or_left (differ (is_zero x) (is_zero y)) (has_turn (y ∷ zs)) turns
from_turn (x ∷ y ∷ zs) (suc (suc j)) least below turns =
    let back : suc (suc j) - 1 ≡ suc (suc j - 1) = omega arith in
    or_right (differ (is_zero x) (is_zero y)) (has_turn (y ∷ zs))
    (from_turn (y ∷ zs) (suc j) (omega arith) (omega arith) (sym (ap (λ i. differ (is_zero (get_or (x ∷ y ∷ zs) i Zero)) (is_zero (get_or (y ∷ zs) (suc j) Zero))) back) ∙ turns))

payload_from : (xs : List Mark) → list_any is_payload xs ≡ true → (j : ℕ) × (j < length xs) × (is_payload (get_or xs j Zero) ≡ true)
payload_from [] h = cc
payload_from (x ∷ xs) h = ⊎_elim
    (λ (here : is_payload x ≡ true). (0, (let f : 0 < suc (length xs) = omega arith in f), here))
    (λ (later : list_any is_payload xs ≡ true).
    let (j, below, is) = payload_from xs later in
    (suc j, (let f : suc j < suc (length xs) = omega arith in f), is))
    (or_cases (is_payload x) (list_any is_payload xs) h)

from_payload : (xs : List Mark) (j : ℕ) → j < length xs → is_payload (get_or xs j Zero) ≡ true → list_any is_payload xs ≡ true
from_payload [] j below is = absurd (omega arith)
from_payload (x ∷ xs) zero below is = or_left (is_payload x) (list_any is_payload xs) is
from_payload (x ∷ xs) (suc j) below is = or_right (is_payload x) (list_any is_payload xs) (from_payload xs j (omega arith) is)

-- a byte of the block is a payload's, or a byte of it and the one before it in the block are a zero byte and another one
abbrev pub IsTouched : List Mark → (block : ℕ) → Type 0
IsTouched marks k =
    ((q : ℕ) × (4096 * k ≤ q) × (q < 4096 * k + 4096) × (q < length marks) × (is_payload (get_or marks q Zero) ≡ true))
    ⊎ ((q : ℕ) × (4096 * k < q) × (q < 4096 * k + 4096) × (q < length marks) × TurnsAt marks q)

module _ (marks : List Mark) (k : ℕ) where
  block_long : length (block_at marks k) ≡ min 4096 (length marks - 4096 * k)
  block_long = length-take 4096 (drop (4096 * k) marks) ∙ ap (min 4096) (length-drop (4096 * k) marks)

  block_read : (j : ℕ) → j < 4096 → get_or (block_at marks k) j Zero ≡ get_or marks (4096 * k + j) Zero
  block_read j h = get_or-take 4096 (drop (4096 * k) marks) j Zero h ∙ get_or-drop (4096 * k) marks j Zero

  pub written_is_touched : is_written (block_at marks k) ≡ true → IsTouched marks k
  written_is_touched h = ⊎_elim
      (λ (payload : list_any is_payload (block_at marks k) ≡ true).
      let (j, below, is) = payload_from (block_at marks k) payload in
      let long = block_long in
      let small : j < 4096 = omega arith in
      inl (4096 * k + j, (let a : 4096 * k ≤ 4096 * k + j = omega arith in a), (let b : 4096 * k + j < 4096 * k + 4096 = omega arith in b), (let c : 4096 * k + j < length marks = omega arith in c), ap is_payload (sym (block_read j small)) ∙ is))
      (λ (turn : has_turn (block_at marks k) ≡ true).
      let (j, least, below, turns) = turn_from (block_at marks k) turn in
      let long = block_long in
      let small : j < 4096 = omega arith in
      let before : j - 1 < 4096 = omega arith in
      let back : 4096 * k + j - 1 ≡ 4096 * k + (j - 1) = omega arith in
      inr (
        4096 * k + j,
        (let a : 4096 * k < 4096 * k + j = omega arith in a),
        (let b : 4096 * k + j < 4096 * k + 4096 = omega arith in b),
        (let c : 4096 * k + j < length marks = omega arith in c),
        (λ i. differ (is_zero ((ap (λ q. get_or marks q Zero) back ∙ sym (block_read (j - 1) before)) i)) (is_zero (sym (block_read j small) i))) ∙ turns,
      ))
      (or_cases (list_any is_payload (block_at marks k)) (has_turn (block_at marks k)) (sym (written_by_turn (block_at marks k)) ∙ h))

  pub touched_is_written : IsTouched marks k → is_written (block_at marks k) ≡ true
  touched_is_written touched = written_by_turn (block_at marks k) ∙ ⊎_elim
      (λ (one : (q : ℕ) × (4096 * k ≤ q) × (q < 4096 * k + 4096) × (q < length marks) × (is_payload (get_or marks q Zero) ≡ true)).
      let (q, low, high, below, is) = one in
      let long = block_long in
      let small : q - 4096 * k < 4096 = omega arith in
      let within : q - 4096 * k < length (block_at marks k) = omega arith in
      let place : 4096 * k + (q - 4096 * k) ≡ q = omega arith in
      or_left (list_any is_payload (block_at marks k)) (has_turn (block_at marks k))
      (from_payload (block_at marks k) (q - 4096 * k) within (ap is_payload (block_read (q - 4096 * k) small ∙ ap (λ q. get_or marks q Zero) place) ∙ is)))
      (λ (two : (q : ℕ) × (4096 * k < q) × (q < 4096 * k + 4096) × (q < length marks) × TurnsAt marks q).
      let (q, low, high, below, turns) = two in
      let long = block_long in
      let small : q - 4096 * k < 4096 = omega arith in
      let before : q - 4096 * k - 1 < 4096 = omega arith in
      let within : q - 4096 * k < length (block_at marks k) = omega arith in
      let place : 4096 * k + (q - 4096 * k) ≡ q = omega arith in
      let back : 4096 * k + (q - 4096 * k - 1) ≡ q - 1 = omega arith in
      or_right (list_any is_payload (block_at marks k)) (has_turn (block_at marks k))
      (from_turn (block_at marks k) (q - 4096 * k) (omega arith) within
      ((λ i. differ (is_zero ((block_read (q - 4096 * k - 1) before ∙ ap (λ q. get_or marks q Zero) back) i)) (is_zero ((block_read (q - 4096 * k) small ∙ ap (λ q. get_or marks q Zero) place) i))) ∙ turns)))
      touched
