-- What is dealt, what stands in the shares then, and what comes back.
use Rattle.std.proofs.Common.{◌≡◌, ◌≢◌, ℕ, zero, suc, ◌+◌, ◌*◌, ◌/◌, ◌%◌, ◌<◌, ◌≤◌, ◌==◌, List, [], ◌∷◌, ◌++◌, length, get_or, set, replicate, map, reverse, sym, refl, ap, subst, ◌∙◌, ⊎_elim, arith, append_assoc, append-nil, length-append, slice_index_or}
use Rattle.std.proofs.lemmas.Bool.{cases_eq, eq-eqb, ne_eqb}
use Rattle.std.proofs.lemmas.List.{length-set, length-replicate, get_or-replicate, get_or-set_same, get_or-set_other, set-set, set-get_or, length-reverse, reverse-append}
use Rattle.std.proofs.lemmas.Nat.{div-add-mod', mod_below, div_below, le-div, div-mul-add}
use native.Mathlib.Nat.{mul_comm, mul-le-mul_right}
use Rattle.kfs_shared.specs.Crew.Crew.{Pairs}
use Rattle.kfs_shared.specs.Crew.Shares.{when, share_from, put_in, dealt}
use Rattle.kfs_shared.specs.Crew.Tasks.{all_of}
use Rattle.kfs_shared.proofs.CrewLemmas.Crews.{pairs_length}
use Rattle.kfs_shared.proofs.CrewLemmas.Sums.{weigh, weigh_append}

-- ---- dealing

module _ {X : Type 0} where
  pub put_length : (at : ℕ) (x : X) (lists : List (List X)) → length (put_in at x lists) ≡ length lists
  put_length at x lists = length-set lists at (get_or lists at [] ++ x ∷ [])

  pub dealt_length : (count : ℕ) (xs : List X) → length (dealt count xs) ≡ count
  dealt_length count [] = length-replicate count []
  dealt_length count (x ∷ xs) = put_length (length xs % count) x (dealt count xs) ∙ dealt_length count xs

  put_there : (at : ℕ) (x : X) (lists : List (List X)) → at < length lists → get_or (put_in at x lists) at [] ≡ get_or lists at [] ++ x ∷ []
  put_there at x lists low = get_or-set_same lists at (get_or lists at [] ++ x ∷ []) [] low

  put_elsewhere : (at k : ℕ) (x : X) (lists : List (List X)) → k ≢ at → get_or (put_in at x lists) k [] ≡ get_or lists k []
  put_elsewhere at k x lists other = get_or-set_other lists at k (get_or lists at [] ++ x ∷ []) [] other

  -- the place of the next element
  pub at_next : (count : ℕ) (xs : List X) → 0 < count → length xs % count < length (dealt count xs)
  at_next count xs some = subst (λ n. length xs % count < n) (sym (dealt_length count xs)) (mod_below (length xs) count some)

-- ---- quotients

pub quotient_le : (n k : ℕ) → 0 < k → n / k ≤ n
quotient_le n zero some = absurd (omega arith)
quotient_le n (suc k) some =
    let one : 1 ≤ suc k = omega arith in
    let more = mul-le-mul_right (n + 1) one in
    let turned : suc k * (n + 1) ≡ (n + 1) * suc k = mul_comm (suc k) (n + 1) in
    let less = div_below n (suc k) (n + 1) some (omega arith) in omega arith

below_next : (n count many : ℕ) → 0 < count → many * count + n % count + 1 ≤ n + count → many ≤ n / count
below_next n count many some near =
    let parts = div-add-mod' n count in
    let less : many * count < (n / count + 1) * count = omega arith in
    let q = div_below (many * count) count (n / count + 1) some less in
    let same = div-mul-add many count 0 some in
    let plain : (many * count + 0) / count ≡ many * count / count = ap (λ z. z / count) (omega arith) in
    omega arith

module _ {X : Type 0} where
  rooms : (count k : ℕ) (xs : List X) → 0 < count → k < count → length (get_or (dealt count xs) k []) * count + k + 1 ≤ length xs + count
  rooms count k [] some low =
      let none : get_or (replicate count []) k [] ≡ [] = get_or-replicate count k [] [] low in
      let e : length (get_or (replicate count []) k []) * count ≡ 0 * count = ap (λ (l : List X). length l * count) none in omega arith
  rooms count k (x ∷ xs) some low =
      let before = rooms count k xs some low in
      let parts = div-add-mod' (length xs) count in ⊎_elim
      (λ (is : k ≡ length xs % count).
      let at = subst (λ n. n < length (dealt count xs)) (sym is) (at_next count xs some) in
      let long = ap length (subst (λ n. get_or (put_in n x (dealt count xs)) k [] ≡ get_or (dealt count xs) k [] ++ x ∷ []) is (put_there k x (dealt count xs) at)) ∙ length-append (get_or (dealt count xs) k []) (x ∷ []) in
      let few = below_next (length xs) count (length (get_or (dealt count xs) k [])) some (subst (λ n. length (get_or (dealt count xs) k []) * count + n + 1 ≤ length xs + count) is before) in
      let less = mul-le-mul_right count few in
      let product = ap (λ n. n * count) long in omega arith)
      (λ (other : k ≡ length xs % count → ⊥).
      let same = ap (λ z. length z * count) (put_elsewhere (length xs % count) k x (dealt count xs) other) in omega arith) (cases_eq k (length xs % count))

  -- the share that gets the next element has at most so many
  pub next_room : (count : ℕ) (xs : List X) → 0 < count → length (get_or (dealt count xs) (length xs % count) []) ≤ length xs / count
  next_room count xs some = below_next (length xs) count (length (get_or (dealt count xs) (length xs % count) [])) some (rooms count (length xs % count) xs some (mod_below (length xs) count some))

  -- room for all tasks is room for the next one
  pub room_enough : (count : ℕ) (tasks done : List X) (x : X) (all : ℕ) → 0 < count → all ≡ length tasks + 1 + length done → length (get_or (dealt count done) (length done % count) []) ≤ all / count
  room_enough count tasks done x all some is =
      let few = next_room count done some in
      let parts = div-add-mod' (length done) count in
      let more = le-div (length done / count) all count some (omega arith) in omega arith

  -- there is one to be taken back
  pub next_back : (count : ℕ) (rest : List X) (n : ℕ) → 0 < count → length rest ≡ n + 1 → 0 < length (get_or (dealt count rest) (n % count) [])
  next_back count [] n some is = absurd (omega arith)
  next_back count (x ∷ rest) n some is =
      let same : length rest ≡ n = omega arith in
      let at = ap length (put_there (length rest % count) x (dealt count rest) (at_next count rest some)) ∙ length-append (get_or (dealt count rest) (length rest % count) []) (x ∷ []) in
      subst (λ m. 0 < length (get_or (dealt count (x ∷ rest)) (m % count) [])) same (omega arith)

-- ---- what is done to each element where it lies

module _ {X Y : Type 0} (R : X → Y → Type 0) where
  pairs_snoc : (xs : List X) (x : X) (zs : List Y) → Pairs R (xs ++ x ∷ []) zs → (ys : List Y) × (y : Y) × (zs ≡ ys ++ y ∷ []) × Pairs R xs ys × R x y
  pairs_snoc [] x [] h = absurd h
  pairs_snoc [] x (z ∷ []) h = ([], z, refl, tt, h.0)
  pairs_snoc [] x (z ∷ w ∷ zs) h = absurd h.1
  pairs_snoc (v ∷ xs) x [] h = absurd h
  pairs_snoc (v ∷ xs) x (z ∷ zs) h = let p = pairs_snoc xs x zs h.1 in (z ∷ p.0, p.1, ap (λ (l : List Y). z ∷ l) p.2, (h.0, p.3), p.4)

  put_pairs : (lists : List (List X)) (at : ℕ) (x : X) (hs : List (List Y)) → at < length lists → Pairs (Pairs R) (put_in at x lists) hs → (ks : List (List Y)) × (y : Y) × (hs ≡ put_in at y ks) × Pairs (Pairs R) lists ks × R x y
  put_pairs [] at x hs low h = absurd (omega arith)
  put_pairs (l ∷ ls) zero x [] low h = absurd h
  put_pairs (l ∷ ls) zero x (g ∷ gs) low h = let p = pairs_snoc l x g h.0 in (p.0 ∷ gs, p.1, ap (λ (z : List Y). z ∷ gs) p.2, (p.3, h.1), p.4)
  put_pairs (l ∷ ls) (suc at) x [] low h = absurd h
  put_pairs (l ∷ ls) (suc at) x (g ∷ gs) low h = let p = put_pairs ls at x gs (omega arith) h.1 in (g ∷ p.0, p.1, ap (λ (z : List (List Y)). g ∷ z) p.2, (h.0, p.3), p.4)

  none_pairs : (count : ℕ) (hs : List (List Y)) → Pairs (Pairs R) (replicate count []) hs → hs ≡ replicate count []
  none_pairs zero [] h = refl
  none_pairs zero (g ∷ gs) h = absurd h
  none_pairs (suc count) [] h = absurd h
  none_pairs (suc count) ([] ∷ gs) h = ap (λ (z : List (List Y)). [] ∷ z) (none_pairs count gs h.1)
  none_pairs (suc count) ((y ∷ g) ∷ gs) h = absurd h.0

  -- the elements that were dealt have become others, which lie as if these had been dealt
  pub dealt_pairs : (count : ℕ) (xs : List X) (hs : List (List Y)) → 0 < count → Pairs (Pairs R) (dealt count xs) hs → (ys : List Y) × (hs ≡ dealt count ys) × Pairs R xs ys
  dealt_pairs count [] hs some h = ([], none_pairs count hs h, tt)
  dealt_pairs count (x ∷ xs) hs some h =
      let p = put_pairs (dealt count xs) (length xs % count) x hs (at_next count xs some) h in
      let q = dealt_pairs count xs p.0 some p.3 in
      let long = pairs_length R xs q.0 q.2 in
      (p.1 ∷ q.0, p.2 ∙ (ap (put_in (length xs % count) p.1) q.1 ∙ ap (λ n. put_in (n % count) p.1 (dealt count q.0)) (sym long)), (p.4, q.2))

-- ---- taking out again

module _ {X : Type 0} where
  snoc_same : (xs ys : List X) (x y : X) → xs ++ x ∷ [] ≡ ys ++ y ∷ [] → (xs ≡ ys) × (x ≡ y)
  snoc_same [] [] x y is = (refl, ap (λ l. get_or l 0 x) is)
  snoc_same [] (v ∷ ys) x y is = let n = ap length is ∙ length-append (v ∷ ys) (y ∷ []) in absurd (omega arith)
  snoc_same (v ∷ xs) [] x y is = let n = sym (ap length is) ∙ length-append (v ∷ xs) (x ∷ []) in absurd (omega arith)
  snoc_same (v ∷ xs) (w ∷ ys) x y is =
      let tails = snoc_same xs ys x y (ap (λ l. tail l) is) in
      (ap (λ (h : X). h ∷ xs) (ap (λ l. get_or l 0 v) is) ∙ ap (λ (l : List X). w ∷ l) tails.0, tails.1)
    where
      tail : List X → List X
      tail [] = []
      tail (h ∷ l) = l

  put_back : (at : ℕ) (x : X) (lists : List (List X)) → set (put_in at x lists) at (get_or lists at []) ≡ lists
  put_back at x lists = set-set lists at (get_or lists at [] ++ x ∷ []) (get_or lists at []) ∙ set-get_or lists at []

  pub put_same : (at : ℕ) (x y : X) (ks ls : List (List X)) → at < length ks → at < length ls → put_in at x ks ≡ put_in at y ls → (ks ≡ ls) × (x ≡ y)
  put_same at x y ks ls low below is =
      let both = snoc_same (get_or ks at []) (get_or ls at []) x y (sym (put_there at x ks low) ∙ (ap (λ l. get_or l at []) is ∙ put_there at y ls below)) in
      (sym (put_back at x ks) ∙ (ap (λ l. set l at (get_or ks at [])) is ∙ (ap (set (put_in at y ls) at) both.0 ∙ put_back at y ls)), both.1)

  -- one is taken back
  pub gathered : (count : ℕ) (first lists : List (List X)) (tasks rest : List X) (n : ℕ) (x : X) → 0 < count → length rest ≡ n + 1 → length lists ≡ count → dealt count rest ≡ put_in (n % count) x lists → first ≡ dealt count (tasks ++ rest)
      → (left : List X) × (lists ≡ dealt count left) × (length left ≡ n) × (first ≡ dealt count ((tasks ++ x ∷ []) ++ left))
  gathered count first lists tasks [] n x some long many is lie = absurd (omega arith)
  gathered count first lists tasks (y ∷ rest) n x some long many is lie =
      let same : length rest ≡ n = omega arith in
      let low : n % count < length lists = subst (λ m. n % count < m) (sym many) (mod_below n count some) in
      let p = put_same (n % count) y x (dealt count rest) lists (subst (λ m. m % count < length (dealt count rest)) same (at_next count rest some)) low (ap (λ m. put_in (m % count) y (dealt count rest)) (sym same) ∙ is) in (
        rest,
        sym p.0,
        same,
        lie ∙ ap (dealt count) (ap (λ z. tasks ++ z ∷ rest) p.1 ∙ sym (append_assoc tasks (x ∷ []) rest)),
      )

-- ---- one list of several, changed where it lies

module _ {V X : Type 0} (items : V → List X) where
  pub put_mapped : (vs : List V) (at : ℕ) (v d : V) (x : X) → at < length vs → items v ≡ items (slice_index_or vs at d) ++ x ∷ [] → map items (set vs at v) ≡ put_in at x (map items vs)
  put_mapped [] at v d x low is = absurd (omega arith)
  put_mapped (w ∷ vs) zero v d x low is = ap (λ (l : List X). l ∷ map items vs) is
  put_mapped (w ∷ vs) (suc at) v d x low is = ap (λ (ls : List (List X)). items w ∷ ls) (put_mapped vs at v d x (omega arith) is)

  pub taken_mapped : (vs : List V) (at : ℕ) (v d : V) (x : X) → at < length vs → items (slice_index_or vs at d) ≡ items v ++ x ∷ [] → map items vs ≡ put_in at x (map items (set vs at v))
  taken_mapped [] at v d x low is = absurd (omega arith)
  taken_mapped (w ∷ vs) zero v d x low is = ap (λ (l : List X). l ∷ map items vs) is
  taken_mapped (w ∷ vs) (suc at) v d x low is = ap (λ (ls : List (List X)). items w ∷ ls) (taken_mapped vs at v d x (omega arith) is)

-- ---- numbers of elements

module _ {X : Type 0} (f : X → List ℕ) where
  all_snoc : (xs : List X) (x : X) → all_of f (xs ++ x ∷ []) ≡ all_of f xs ++ f x
  all_snoc [] x = append-nil (f x)
  all_snoc (v ∷ xs) x = ap (λ z. f v ++ z) (all_snoc xs x) ∙ sym (append_assoc (f v) (all_of f xs) (f x))

  weigh_put : (w : ℕ → ℕ) (at : ℕ) (x : X) (lists : List (List X)) → at < length lists → weigh w (all_of (all_of f) (put_in at x lists)) ≡ weigh w (all_of (all_of f) lists) + weigh w (f x)
  weigh_put w at x [] low = absurd (omega arith)
  weigh_put w zero x (l ∷ ls) low =
      let a = weigh_append w (all_of f (l ++ x ∷ [])) (all_of (all_of f) ls) in
      let b = ap (weigh w) (all_snoc l x) ∙ weigh_append w (all_of f l) (f x) in
      let c = weigh_append w (all_of f l) (all_of (all_of f) ls) in omega arith
  weigh_put w (suc at) x (l ∷ ls) low =
      let a = weigh_append w (all_of f l) (all_of (all_of f) (put_in at x ls)) in
      let b = weigh_put w at x ls (omega arith) in
      let c = weigh_append w (all_of f l) (all_of (all_of f) ls) in omega arith

  weigh_none : (w : ℕ → ℕ) (count : ℕ) → weigh w (all_of (all_of f) (replicate count [])) ≡ 0
  weigh_none w zero = refl
  weigh_none w (suc count) = weigh_none w count

  -- the shares have the same numbers as the elements
  pub weigh_dealt : (w : ℕ → ℕ) (count : ℕ) (xs : List X) → 0 < count → weigh w (all_of (all_of f) (dealt count xs)) ≡ weigh w (all_of f (reverse xs))
  weigh_dealt w count [] some = weigh_none w count
  weigh_dealt w count (x ∷ xs) some =
      let a = weigh_put w (length xs % count) x (dealt count xs) (at_next count xs some) in
      let b = weigh_dealt w count xs some in
      let c = ap (λ l. weigh w (all_of f l)) (reverse-append (x ∷ []) xs) ∙ (ap (weigh w) (all_snoc (reverse xs) x) ∙ weigh_append w (all_of f (reverse xs)) (f x)) in omega arith

-- ---- one share

module _ {X : Type 0} where
  share_snoc : (count share from : ℕ) (xs : List X) (x : X) → share_from count share from (xs ++ x ∷ []) ≡ share_from count share from xs ++ when ((from + length xs) % count == share) (x ∷ [])
  share_snoc count share from [] x = append-nil (when (from % count == share) (x ∷ [])) ∙ ap (λ n. when (n % count == share) (x ∷ [])) (omega arith)
  share_snoc count share from (v ∷ xs) x =
      ap (λ z. when (from % count == share) (v ∷ []) ++ z) (share_snoc count share (from + 1) xs x ∙ ap (λ n. share_from count share (from + 1) xs ++ when (n % count == share) (x ∷ [])) (omega arith))
      ∙ sym (append_assoc (when (from % count == share) (v ∷ [])) (share_from count share (from + 1) xs) (when ((from + length (v ∷ xs)) % count == share) (x ∷ [])))

  -- each share has the elements of its numbers, in their order
  pub share_dealt : (count share : ℕ) (xs : List X) → share < count → get_or (dealt count xs) share [] ≡ share_from count share 0 (reverse xs)
  share_dealt count share [] low = get_or-replicate count share [] [] low
  share_dealt count share (x ∷ xs) low =
      let some : 0 < count = omega arith in
      let at = length xs % count in
      let long : 0 + length (reverse xs) ≡ length xs = let e = length-reverse xs in omega arith in
      let last : share_from count share 0 (reverse (x ∷ xs)) ≡ share_from count share 0 (reverse xs) ++ when (at == share) (x ∷ []) =
      ap (share_from count share 0) (reverse-append (x ∷ []) xs) ∙ (share_snoc count share 0 (reverse xs) x ∙ ap (λ n. share_from count share 0 (reverse xs) ++ when (n % count == share) (x ∷ [])) long) in
      ⊎_elim
      (λ (is : at ≡ share). subst (λ n. get_or (put_in at x (dealt count xs)) n [] ≡ share_from count share 0 (reverse xs) ++ when (at == share) (x ∷ [])) is
      (put_there at x (dealt count xs) (at_next count xs some) ∙ (ap (λ l. l ++ x ∷ []) (ap (λ n. get_or (dealt count xs) n []) is ∙ share_dealt count share xs low)
      ∙ ap (λ b. share_from count share 0 (reverse xs) ++ when b (x ∷ [])) (sym (eq-eqb at share is)))) ∙ sym last)
      (λ (other : at ≡ share → ⊥). (put_elsewhere at share x (dealt count xs) (λ is. other (sym is)) ∙ (share_dealt count share xs low ∙ (sym (append-nil (share_from count share 0 (reverse xs)))
      ∙ ap (λ b. share_from count share 0 (reverse xs) ++ when b (x ∷ [])) (sym (ne_eqb at share other))))) ∙ sym last)
      (cases_eq at share)
