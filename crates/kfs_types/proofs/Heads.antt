-- Names are ordered as the numbers that their first bytes decode to.
use Rattle.std.proofs.Common.{◌≡◌, ℕ, zero, suc, ◌+◌, ◌*◌, ◌<◌, ◌≤◌, List, [], ◌∷◌, ◌++◌, length, get_or, take, drop, replicate, refl, sym, ap, ◌∙◌, arith, Ordering, Less, Equal, Greater}
use Rattle.std.specs.Ordering.{nat_cmp, ordering_then, MatchOrdering}
use Rattle.std.specs.Cmp.{ranks, nat_cmp_is}
use Rattle.std.specs.Cmp.Lexicographic.{slice_cmp}
use Rattle.std.specs.Int.{w128, from_be_bytes}
use Rattle.std.proofs.lemmas.List.{get_or-take}
use Rattle.kfs_model.specs.Spelling.{IsBytes, IsName}
use Rattle.kfs_types.specs.Padded.{padded}

-- the number that n bytes from i on spell after a, where zeros stand past the end
abbrev number : List ℕ → (a i n : ℕ) → ℕ
number xs a i zero = a
number xs a i (suc n) = number xs (a * 256 + get_or xs i 0) (suc i) n

tail : (x : ℕ) (xs : List ℕ) (a i n : ℕ) → number (x ∷ xs) a (suc i) n ≡ number xs a i n
tail x xs a i zero = refl
tail x xs a i (suc n) = tail x xs (a * 256 + get_or xs i 0) (suc i) n

rises : (xs ys : List ℕ) (a b i n : ℕ) → IsBytes xs → a < b → number xs a i n < number ys b i n
rises xs ys a b i zero small l = l
rises xs ys a b i (suc n) small l =
    let s = small i in
    rises xs ys (a * 256 + get_or xs i 0) (b * 256 + get_or ys i 0) (suc i) n small (omega arith)

-- bytes, none of them zero
record ArePlain (xs : List ℕ) : Type 0 where
  small : IsBytes xs
  plain : (k : ℕ) → k < length xs → 0 < get_or xs k 0

rest : (x : ℕ) (xs : List ℕ) → ArePlain (x ∷ xs) → ArePlain xs
rest x xs h = record { small = λ k. h.small (suc k); plain = λ k l. h.plain (suc k) (omega arith) }

below : (x y : ℕ) → x < y → nat_cmp x y ≡ Less
below x y l = sym (nat_cmp_is x y Less l)

above : (x y : ℕ) → y < x → nat_cmp x y ≡ Greater
above x y l = sym (nat_cmp_is x y Greater l)

-- the numbers of n bytes settle the order where they differ, or where n goes past the end
settles : (xs ys : List ℕ) (a n : ℕ) → ArePlain xs → ArePlain ys → (number xs a 0 n ≡ number ys a 0 n → length xs < n)
    → nat_cmp (number xs a 0 n) (number ys a 0 n) ≡ slice_cmp nat_cmp xs ys
settles xs ys a zero f g h = let l = h refl in absurd (omega arith)
settles [] [] a (suc n) f g h = let p : ℕ = number [] a 0 (suc n) in sym (nat_cmp_is p p Equal refl)
settles [] (y ∷ ys) a (suc n) f g h =
    let s = g.plain 0 (omega arith) in
    below _ _ (rises [] (y ∷ ys) (a * 256 + 0) (a * 256 + y) 1 n f.small (omega arith))
settles (x ∷ xs) [] a (suc n) f g h =
    let s = f.plain 0 (omega arith) in
    above _ _ (rises [] (x ∷ xs) (a * 256 + 0) (a * 256 + x) 1 n g.small (omega arith))
settles (x ∷ xs) (y ∷ ys) a (suc n) f g h = by (settles xs ys (a * 256 + x) n (rest x xs f) (rest y ys g)) (nat_cmp x y) refl (ranks x y)
  where
    by : ((number xs (a * 256 + x) 0 n ≡ number ys (a * 256 + x) 0 n → length xs < n) → nat_cmp (number xs (a * 256 + x) 0 n) (number ys (a * 256 + x) 0 n) ≡ slice_cmp nat_cmp xs ys)
        → (r : Ordering) → nat_cmp x y ≡ r → MatchOrdering r (x < y) (x ≡ y) (y < x)
        → nat_cmp (number (x ∷ xs) a 0 (suc n)) (number (y ∷ ys) a 0 (suc n)) ≡ slice_cmp nat_cmp (x ∷ xs) (y ∷ ys)
    by later Less e l =
        let under : x < y = l in
        below _ _ (rises (x ∷ xs) (y ∷ ys) (a * 256 + x) (a * 256 + y) 1 n f.small (omega arith)) ∙ sym (ap (λ r. ordering_then r (slice_cmp nat_cmp xs ys)) e)
    by later Greater e l =
        let over : y < x = l in
        above _ _ (rises (y ∷ ys) (x ∷ xs) (a * 256 + y) (a * 256 + x) 1 n g.small (omega arith)) ∙ sym (ap (λ r. ordering_then r (slice_cmp nat_cmp xs ys)) e)
    by later Equal e l =
        let level : x ≡ y = l in
        let first : number (x ∷ xs) a 0 (suc n) ≡ number xs (a * 256 + x) 0 n = tail x xs (a * 256 + x) 0 n in
        let second : number (y ∷ ys) a 0 (suc n) ≡ number ys (a * 256 + x) 0 n = tail y ys (a * 256 + y) 0 n ∙ ap (λ z. number ys (a * 256 + z) 0 n) (sym level) in
        let shorter = λ (t : number xs (a * 256 + x) 0 n ≡ number ys (a * 256 + x) 0 n). h (first ∙ t ∙ sym second) in
        (λ i. nat_cmp (first i) (second i))
        ∙ later (λ t. let s = shorter t in omega arith)
        ∙ sym (ap (λ r. ordering_then r (slice_cmp nat_cmp xs ys)) e)

-- where the numbers of n bytes are equal and n isn't past the end, the bytes behind them settle the order
goes_on : (xs ys : List ℕ) (a n : ℕ) → ArePlain xs → ArePlain ys → number xs a 0 n ≡ number ys a 0 n → n ≤ length xs
    → (n ≤ length ys) × (slice_cmp nat_cmp (drop n xs) (drop n ys) ≡ slice_cmp nat_cmp xs ys)
goes_on xs ys a zero f g same within = (omega arith, refl)
goes_on [] ys a (suc n) f g same within = absurd (omega (arith, within))
goes_on (x ∷ xs) [] a (suc n) f g same within =
    let s = f.plain 0 (omega arith) in
    let less = rises [] (x ∷ xs) (a * 256 + 0) (a * 256 + x) 1 n g.small (omega arith) in
    absurd (omega (arith, less, same))
goes_on (x ∷ xs) (y ∷ ys) a (suc n) f g same within = by (goes_on xs ys (a * 256 + x) n (rest x xs f) (rest y ys g)) (nat_cmp x y) refl (ranks x y)
  where
    by : (number xs (a * 256 + x) 0 n ≡ number ys (a * 256 + x) 0 n → n ≤ length xs → (n ≤ length ys) × (slice_cmp nat_cmp (drop n xs) (drop n ys) ≡ slice_cmp nat_cmp xs ys))
        → (r : Ordering) → nat_cmp x y ≡ r → MatchOrdering r (x < y) (x ≡ y) (y < x)
        → (suc n ≤ length (y ∷ ys)) × (slice_cmp nat_cmp (drop n xs) (drop n ys) ≡ slice_cmp nat_cmp (x ∷ xs) (y ∷ ys))
    by later Less e l =
        let under : x < y = l in
        let less = rises (x ∷ xs) (y ∷ ys) (a * 256 + x) (a * 256 + y) 1 n f.small (omega arith) in
        absurd (omega (arith, less, same))
    by later Greater e l =
        let over : y < x = l in
        let less = rises (y ∷ ys) (x ∷ xs) (a * 256 + y) (a * 256 + x) 1 n g.small (omega arith) in
        absurd (omega (arith, less, same))
    by later Equal e l =
        let level : x ≡ y = l in
        let first : number (x ∷ xs) a 0 (suc n) ≡ number xs (a * 256 + x) 0 n = tail x xs (a * 256 + x) 0 n in
        let second : number (y ∷ ys) a 0 (suc n) ≡ number ys (a * 256 + x) 0 n = tail y ys (a * 256 + y) 0 n ∙ ap (λ z. number ys (a * 256 + z) 0 n) (sym level) in
        let rests = later (sym first ∙ same ∙ second) (omega (arith, within)) in
        let inside : n ≤ length ys = rests.0 in
        (omega (arith, inside), rests.1 ∙ sym (ap (λ r. ordering_then r (slice_cmp nat_cmp xs ys)) e))

-- ---- zeros behind

zeros : (m k : ℕ) → get_or {A = ℕ} (replicate m 0) k 0 ≡ 0
zeros zero k = refl
zeros (suc m) zero = refl
zeros (suc m) (suc k) = zeros m k

-- zeros behind change no byte
pub behind : (xs : List ℕ) (m k : ℕ) → get_or (xs ++ replicate m 0) k 0 ≡ get_or xs k 0
behind [] m k = zeros m k
behind (x ∷ xs) m zero = refl
behind (x ∷ xs) m (suc k) = behind xs m k

-- what is known of a name's fields
abbrev pub AreFields : (name bytes : List ℕ) (len : ℕ) → Type 0
AreFields name bytes len = IsName name × (padded name ≡ bytes) × (length name ≡ len)

module _ {name bytes : List ℕ} {len : ℕ} (fields : AreFields name bytes len) (fit : IsBytes bytes) where
  at : (k : ℕ) → get_or bytes k 0 ≡ get_or name k 0
  at k = ap (λ l. get_or l k 0) (sym fields.1) ∙ behind name _ k

  plain : ArePlain name
  plain = record {
    small = λ k. let e = at k in let s = fit k in omega arith;
    plain = λ k l. let n = (fields.0.plain k 0 l).0 in omega arith;
  }

  spelled : from_be_bytes w128 (take 16 bytes) ≡ number name 0 0 16
  spelled =
      let first = λ (k : ℕ) (l : k < 16). get_or-take 16 bytes k 0 l ∙ at k in
      omega (
        arith,
        first 0 (omega arith),
        first 1 (omega arith),
        first 2 (omega arith),
        first 3 (omega arith),
        first 4 (omega arith),
        first 5 (omega arith),
        first 6 (omega arith),
        first 7 (omega arith),
        first 8 (omega arith),
        first 9 (omega arith),
        first 10 (omega arith),
        first 11 (omega arith),
        first 12 (omega arith),
        first 13 (omega arith),
        first 14 (omega arith),
        first 15 (omega arith),
      )

-- p and q are the heads of two names
pub by_heads : {xs ys us vs : List ℕ} {m n : ℕ} → AreFields xs us m → AreFields ys vs n → IsBytes us → IsBytes vs
    → (p q : ℕ) → p ≡ from_be_bytes w128 (take 16 us) → q ≡ from_be_bytes w128 (take 16 vs) → (p ≡ q → m < 16) → nat_cmp p q ≡ slice_cmp nat_cmp xs ys
by_heads {xs} {ys} f g b c p q d e h =
    let first = d ∙ spelled f b in
    let second = e ∙ spelled g c in
    (λ i. nat_cmp (first i) (second i))
    ∙ settles xs ys 0 16 (plain f b) (plain g c) (λ t. let s = h (first ∙ t ∙ sym second) in omega (arith, f.2))

-- the names' heads are equal, and the first name isn't shorter
pub by_rests : {xs ys us vs : List ℕ} {m n : ℕ} → AreFields xs us m → AreFields ys vs n → IsBytes us → IsBytes vs
    → (p q : ℕ) → p ≡ from_be_bytes w128 (take 16 us) → q ≡ from_be_bytes w128 (take 16 vs) → p ≡ q → 16 ≤ m
    → (16 ≤ length ys) × (slice_cmp nat_cmp (drop 16 xs) (drop 16 ys) ≡ slice_cmp nat_cmp xs ys)
by_rests {xs} {ys} f g b c p q d e same within =
    goes_on xs ys 0 16 (plain f b) (plain g c) (sym (spelled f b) ∙ sym d ∙ same ∙ e ∙ spelled g c) (omega (arith, f.2, within))
