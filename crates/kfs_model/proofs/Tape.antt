-- What a Truncate and a Write leave at each place of a file, read with zero marks behind its end.
use Rattle.std.proofs.Common.{◌≡◌, ℕ, zero, suc, ◌+◌, ◌-◌, ◌<◌, ◌≤◌, ◌⊎◌, inl, inr, ⊎_elim, Bool, true, false, cond, ◌&&◌, ltb, leb, List, [], ◌∷◌, ◌++◌, length, take, drop, replicate, get_or, refl, sym, ap, ◌∙◌, arith, length-append}
use Rattle.std.proofs.Math.ListN.{get_or-append}
use Rattle.std.proofs.Math.Seq.{get_or-append_right}
use Rattle.std.proofs.lemmas.List.{get_or-take, get_or-drop, get_or-replicate, length-take-le, length-replicate}
use Rattle.std.proofs.lemmas.Bool.Decides.{nat_tests}
use Rattle.kfs_model.specs.Run.{Mark, Zero, Payload, places_from, over_marks}
use Rattle.kfs_model.specs.Effect.{overwritten, resized, lengthened}

-- ---- cells, read with zero behind their end

-- past the end
pub get_or-past : {X : Type 0} (xs : List X) (i : ℕ) (d : X) → length xs ≤ i → get_or xs i d ≡ d
get_or-past [] i d h = refl
get_or-past (x ∷ xs) zero d h = absurd (omega arith)
get_or-past (x ∷ xs) (suc i) d h = get_or-past xs i d (omega arith)

pub get_or-places : (at : ℕ → Mark) (first : ℕ) (payload : List ℕ) (j : ℕ) → j < length payload → get_or (places_from at first payload) j Zero ≡ at (first + j)
get_or-places at first [] j h = absurd (omega arith)
get_or-places at first (b ∷ bs) zero h = let e : first ≡ first + 0 = omega arith in ap at e
get_or-places at first (b ∷ bs) (suc j) h = let e : first + 1 + j ≡ first + suc j = omega arith in get_or-places at (first + 1) bs j (omega arith) ∙ ap at e

pub places_long : (at : ℕ → Mark) (first : ℕ) (payload : List ℕ) → length (places_from at first payload) ≡ length payload
places_long at first [] = refl
places_long at first (b ∷ bs) = ap suc (places_long at (first + 1) bs)

pub below_or_not : (i n : ℕ) → (i < n) ⊎ (n ≤ i)
below_or_not i n = grind arith

-- behind the end there are zero bytes only
lengthened_read : (size : ℕ) (cells : List Mark) (i : ℕ) → get_or (lengthened over_marks size cells) i Zero ≡ get_or cells i Zero
lengthened_read size cells i = ⊎_elim
    (λ (h : i < length cells). get_or-append cells (replicate (size - length cells) Zero) Zero i h)
    (λ (h : length cells ≤ i). get_or-append_right cells (replicate (size - length cells) Zero) i Zero h ∙ all_zero (size - length cells) (i - length cells) ∙ sym (get_or-past cells i Zero h))
    (below_or_not i (length cells))
  where
    all_zero : (n j : ℕ) → get_or (replicate n Zero) j Zero ≡ Zero
    all_zero n j = ⊎_elim
        (λ (h : j < n). get_or-replicate n j Zero Zero h)
        (λ (h : n ≤ j). get_or-past (replicate n Zero) j Zero (omega (arith, length-replicate n Zero)))
        (below_or_not j n)

lengthened_long : (size : ℕ) (cells : List Mark) → length (lengthened over_marks size cells) ≡ length cells + (size - length cells)
lengthened_long size cells = length-append cells (replicate (size - length cells) Zero) ∙ ap (λ n. length cells + n) (length-replicate (size - length cells) Zero)

begun_long : (size : ℕ) (cells : List Mark) → length (take size (lengthened over_marks size cells)) ≡ size
begun_long size cells = length-take-le size (lengthened over_marks size cells) (omega (arith, lengthened_long size cells))

pub resized_read : (size : ℕ) (cells : List Mark) (i : ℕ) → get_or (resized over_marks size cells) i Zero ≡ cond (leb size i) Zero (get_or cells i Zero)
unfolding resized
resized_read size cells i = ⊎_elim
    (λ (h : i < size). get_or-take size (lengthened over_marks size cells) i Zero h ∙ lengthened_read size cells i ∙ ap (λ b. cond b Zero (get_or cells i Zero)) (sym (not_least size i h)))
    (λ (h : size ≤ i). get_or-past (take size (lengthened over_marks size cells)) i Zero (omega (arith, begun_long size cells)) ∙ ap (λ b. cond b Zero (get_or cells i Zero)) (sym (is_least size i h)))
    (below_or_not i size)
  where
    not_least : (size i : ℕ) → i < size → leb size i ≡ false
    not_least size i h = grind (arith, nat_tests)

    is_least : (size i : ℕ) → size ≤ i → leb size i ≡ true
    is_least size i h = grind (arith, nat_tests)

inside : (a b i : ℕ) → a ≤ i → i < b → (leb a i && ltb i b) ≡ true
inside a b i l h = grind (arith, nat_tests)

outside : (a b i : ℕ) → (i < a) ⊎ (b ≤ i) → (leb a i && ltb i b) ≡ false
outside a b i h = grind (arith, nat_tests)

-- the payload's cells, at the offset, over what was there
module _ (offset : ℕ) (c : Mark) (cs cells : List Mark) (i : ℕ) where
  abbrev all : List Mark
  all = take offset (lengthened over_marks offset cells) ++ (c ∷ cs) ++ drop (offset + length (c ∷ cs)) cells

  abbrev start : List Mark
  start = take offset (lengthened over_marks offset cells)

  front_long : length (start ++ (c ∷ cs)) ≡ offset + length (c ∷ cs)
  front_long = length-append start (c ∷ cs) ∙ ap (λ n. n + length (c ∷ cs)) (begun_long offset cells)

  read_before : i < offset → get_or all i Zero ≡ get_or cells i Zero
  read_before h =
      get_or-append (start ++ (c ∷ cs)) (drop (offset + length (c ∷ cs)) cells) Zero i (omega (arith, front_long))
      ∙ get_or-append start (c ∷ cs) Zero i (omega (arith, begun_long offset cells))
      ∙ get_or-take offset (lengthened over_marks offset cells) i Zero h
      ∙ lengthened_read offset cells i

  read_inside : offset ≤ i → i < offset + length (c ∷ cs) → get_or all i Zero ≡ get_or (c ∷ cs) (i - offset) Zero
  read_inside low high =
      get_or-append (start ++ (c ∷ cs)) (drop (offset + length (c ∷ cs)) cells) Zero i (omega (arith, front_long))
      ∙ get_or-append_right start (c ∷ cs) i Zero (omega (arith, begun_long offset cells))
      ∙ ap (λ n. get_or (c ∷ cs) (i - n) Zero) (begun_long offset cells)

  read_behind : offset + length (c ∷ cs) ≤ i → get_or all i Zero ≡ get_or cells i Zero
  read_behind h =
      let back : offset + length (c ∷ cs) + (i - (offset + length (c ∷ cs))) ≡ i = omega arith in
      get_or-append_right (start ++ (c ∷ cs)) (drop (offset + length (c ∷ cs)) cells) i Zero (omega (arith, front_long))
      ∙ ap (λ n. get_or (drop (offset + length (c ∷ cs)) cells) (i - n) Zero) front_long
      ∙ get_or-drop (offset + length (c ∷ cs)) cells (i - (offset + length (c ∷ cs))) Zero
      ∙ ap (λ n. get_or cells n Zero) back

by_test : {t : Bool} (b : Bool) (x y : Mark) → b ≡ t → cond b x y ≡ cond t x y
by_test b x y e = ap (λ b. cond b x y) e

module _ (index offset b : ℕ) (bs : List ℕ) (cells : List Mark) (i : ℕ) where
  abbrev end : ℕ
  end = offset + length (b ∷ bs)

  abbrev rest : List Mark
  rest = places_from (Payload index) (0 + 1) bs

  long : length (Payload index 0 ∷ rest) ≡ length (b ∷ bs)
  long = places_long (Payload index) 0 (b ∷ bs)

  written_read : get_or (take offset (lengthened over_marks offset cells) ++ (Payload index 0 ∷ rest) ++ drop (offset + length (Payload index 0 ∷ rest)) cells) i Zero
      ≡ cond (leb offset i && ltb i end) (Payload index (i - offset)) (get_or cells i Zero)
  written_read = ⊎_elim
      (λ (h : i < offset). read_before offset (Payload index 0) rest cells i h ∙ sym (by_test (leb offset i && ltb i end) _ _ (outside offset end i (inl h))))
      (λ (low : offset ≤ i). ⊎_elim
      (λ (h : i < end).
      read_inside offset (Payload index 0) rest cells i low (omega (arith, long))
      ∙ get_or-places (Payload index) 0 (b ∷ bs) (i - offset) (omega arith)
      ∙ ap (Payload index) (let e : 0 + (i - offset) ≡ i - offset = omega arith in e)
      ∙ sym (by_test (leb offset i && ltb i end) _ _ (inside offset end i low h)))
      (λ (h : end ≤ i). read_behind offset (Payload index 0) rest cells i (omega (arith, long)) ∙ sym (by_test (leb offset i && ltb i end) _ _ (outside offset end i (inr h))))
      (below_or_not i end))
      (below_or_not i offset)

behind_start : (offset i : ℕ) → (i < offset) ⊎ (offset + 0 ≤ i)
behind_start offset i = grind arith

pub overwritten_read : (index offset : ℕ) (payload : List ℕ) (cells : List Mark) (i : ℕ)
    → get_or (overwritten over_marks offset (places_from (Payload index) 0 payload) cells) i Zero
    ≡ cond (leb offset i && ltb i (offset + length payload)) (Payload index (i - offset)) (get_or cells i Zero)
unfolding overwritten
overwritten_read index offset [] cells i = sym (by_test (leb offset i && ltb i (offset + 0)) (Payload index (i - offset)) (get_or cells i Zero) (outside offset (offset + 0) i (behind_start offset i)))
overwritten_read index offset (b ∷ bs) cells i = written_read index offset b bs cells i
