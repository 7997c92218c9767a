-- What the workers of a crew come to together.
use Rattle.std.proofs.Common.{◌≡◌, ℕ, zero, suc, inl, inr, ◌+◌, ◌≤◌, ◌<◌, ◌%◌, List, [], ◌∷◌, ◌++◌, length, map, reverse, get_or, sym, refl, ap, subst, ◌∙◌, arith}
use Rattle.std.proofs.lemmas.List.{length-map, reverse-append, reverse-reverse}
use Rattle.std.proofs.lemmas.Simd.{map-map}
use Rattle.kfs_shared.proofs.TurnsLemmas.Lists.{starts_longer}
use Rattle.kfs_shared.specs.Turns.Lists.{Has, AreDistinct}
use Rattle.kfs_shared.specs.Crew.Crew.{Pairs, Achieved}
use Rattle.kfs_shared.specs.Crew.Shares.{put_in, dealt}
use Rattle.kfs_shared.specs.Crew.Tasks.{AscendWithin, all_of, IsDoneIn, HasDone, AreDoneBy}
use Rattle.kfs_shared.proofs.CrewLemmas.Crews.{pairs_both, pairs_length}
use Rattle.kfs_shared.proofs.CrewLemmas.Sums.{weigh, one_at, has_weigh, weigh_has, distinct_weigh, weigh_distinct}
use Rattle.kfs_shared.proofs.CrewLemmas.Shares.{dealt_length, dealt_pairs, put_same, at_next, weigh_dealt, share_dealt}
use Rattle.kfs_shared.proofs.CrewLemmas.Work.{ascend_higher, done_on}

-- ---- numbers that rise lie between

rises : (from : ℕ) (ks : List ℕ) (to : ℕ) → AscendWithin from ks to → from ≤ to
rises from [] to a = a
rises from (x ∷ ks) to a = let low = a.0 in let high = rises (x + 1) ks to a.1 in omega arith

abbrev Between : (from to : ℕ) → List ℕ → Type 0
Between from to ks = (k : ℕ) → Has ks k → (from ≤ k) × (k < to)

ascend_between : (from : ℕ) (ks : List ℕ) (to : ℕ) → AscendWithin from ks to → Between from to ks
ascend_between from [] to a k h = absurd h
ascend_between from (x ∷ ks) to a k (inl e) = let low = a.0 in let high = rises (x + 1) ks to a.1 in (omega arith, omega arith)
ascend_between from (x ∷ ks) to a k (inr h) = let low = a.0 in let b = ascend_between (x + 1) ks to a.1 k h in let high = b.1 in let more = b.0 in (omega arith, omega arith)

between_both : (from to : ℕ) (ks ls : List ℕ) → Between from to ks → Between from to ls → Between from to (ks ++ ls)
between_both from to [] ls a b k h = b k h
between_both from to (x ∷ ks) ls a b k (inl e) = a k (inl e)
between_both from to (x ∷ ks) ls a b k (inr h) = between_both from to ks ls (λ j g. a j (inr g)) b k h

-- ---- what the workers achieved, each with its share

module _ {V W T : Type 0} (items : V → List T) (f : T → List ℕ) (P : List W → T → T → Type 0) (from upto : List W) where
  abbrev Did : List W → List W → List ℕ → V → V → Type 0
  Did s0 s1 own v w = HasDone P f s0 s1 own (items v) (items w)

  own_all : (own : List ℕ) (vs ws : List V) → Achieved Did from upto own vs ws → own ≡ all_of (all_of f) (map items ws)
  own_all own [] [] h = h
  own_all own [] (w ∷ ws) h = absurd h
  own_all own (v ∷ vs) [] h = absurd h
  own_all own (v ∷ vs) (w ∷ ws) (s, mine, more, is, begins, does, rest) =
      is ∙ (ap (λ (z : List ℕ). z ++ more) does.owns ∙ ap (λ (z : List ℕ). all_of f (items w) ++ z) (own_all more vs ws rest))

  done_all : (own : List ℕ) (vs ws : List V) → Achieved Did from upto own vs ws → Pairs (Pairs (IsDoneIn P upto)) (map items vs) (map items ws)
  done_all own [] [] h = tt
  done_all own [] (w ∷ ws) h = absurd h
  done_all own (v ∷ vs) [] h = absurd h
  done_all own (v ∷ vs) (w ∷ ws) (s, mine, more, is, begins, does, rest) = (done_on P upto s begins (items v) (items w) does.done, done_all more vs ws rest)

  ascend_at : (own : List ℕ) (vs ws : List V) → Achieved Did from upto own vs ws → (k : ℕ) → k < length ws → AscendWithin (length from) (all_of f (get_or (map items ws) k [])) (length upto)
  ascend_at own [] [] h k low = absurd (omega arith)
  ascend_at own [] (w ∷ ws) h k low = absurd h
  ascend_at own (v ∷ vs) [] h k low = absurd h
  ascend_at own (v ∷ vs) (w ∷ ws) (s, mine, more, is, begins, does, rest) zero low = ascend_higher (length from) (all_of f (items w)) (length s) (length upto) (starts_longer upto s begins) does.ascend
  ascend_at own (v ∷ vs) (w ∷ ws) (s, mine, more, is, begins, does, rest) (suc k) low = ascend_at more vs ws rest k (omega arith)

  between_all : (own : List ℕ) (vs ws : List V) → Achieved Did from upto own vs ws → Between (length from) (length upto) (all_of (all_of f) (map items ws))
  between_all own [] [] h = λ k g. absurd g
  between_all own [] (w ∷ ws) h = absurd h
  between_all own (v ∷ vs) [] h = absurd h
  between_all own (v ∷ vs) (w ∷ ws) (s, mine, more, is, begins, does, rest) =
      between_both (length from) (length upto) (all_of f (items w)) (all_of (all_of f) (map items ws))
      (ascend_between (length from) (all_of f (items w)) (length upto) (ascend_higher (length from) (all_of f (items w)) (length s) (length upto) (starts_longer upto s begins) does.ascend))
      (between_all more vs ws rest)

  length_all : (own : List ℕ) (vs ws : List V) → Achieved Did from upto own vs ws → length ws ≡ length vs
  length_all own [] [] h = refl
  length_all own [] (w ∷ ws) h = absurd h
  length_all own (v ∷ vs) [] h = absurd h
  length_all own (v ∷ vs) (w ∷ ws) (s, mine, more, is, begins, does, rest) = let e = length_all more vs ws rest in omega arith

-- ---- from the shares to the tasks

-- lists that were dealt alike are the same
pub dealt_same : {X : Type 0} (count : ℕ) (xs ys : List X) → 0 < count → length xs ≡ length ys → dealt count xs ≡ dealt count ys → xs ≡ ys
dealt_same count [] [] low long is = refl
dealt_same count [] (y ∷ ys) low long is = absurd (omega arith)
dealt_same count (x ∷ xs) [] low long is = absurd (omega arith)
dealt_same count (x ∷ xs) (y ∷ ys) low long is =
    let tails : length xs ≡ length ys = omega arith in
    let at = length xs % count in
    let p = put_same at x y (dealt count xs) (dealt count ys) (at_next count xs low) (subst (λ n. n % count < length (dealt count ys)) (sym tails) (at_next count ys low))
    (is ∙ ap (λ n. put_in (n % count) y (dealt count ys)) (sym tails)) in
    ap (λ h. h ∷ xs) p.1 ∙ ap (λ l. y ∷ l) (dealt_same count xs ys low tails p.0)

pairs_reverse : {X Y : Type 0} (R : X → Y → Type 0) (xs : List X) (ys : List Y) → Pairs R xs ys → Pairs R (reverse xs) (reverse ys)
pairs_reverse R [] [] h = tt
pairs_reverse R [] (y ∷ ys) h = absurd h
pairs_reverse R (x ∷ xs) [] h = absurd h
pairs_reverse R (x ∷ xs) (y ∷ ys) h = subst (λ l. Pairs R (reverse (x ∷ xs)) l) (sym (reverse-append (y ∷ []) ys)) (subst (λ l. Pairs R l (reverse ys ++ y ∷ [])) (sym (reverse-append (x ∷ []) xs)) (pairs_both R (reverse xs) (x ∷ []) (reverse ys) (y ∷ []) (pairs_reverse R xs ys h.1) (h.0, tt)))

-- the tasks as they lie, dealt to the workers
pub done_by : {V W T : Type 0} (items : V → List T) (f : T → List ℕ) (P : List W → T → T → Type 0) (from upto : List W) (own : List ℕ) (vs ws : List V) (count : ℕ) (xs : List T)
    → 0 < count → length vs ≡ count → map items vs ≡ dealt count xs → Achieved (Did items f P from upto) from upto own vs ws → AreDistinct own
    → (ys : List T) × (map items ws ≡ dealt count ys) × (length ys ≡ length xs) × AreDoneBy P f count from upto (reverse xs) (reverse ys)
done_by {V} {W} {T} items f P from upto own vs ws count xs some many lie h apart =
    let R : T → T → Type 0 = IsDoneIn P upto in
    let p = dealt_pairs R count xs (map items ws) some (subst (λ z. Pairs (Pairs R) z (map items ws)) lie (done_all items f P from upto own vs ws h)) in
    let ys : List T = p.0 in
    let same : (w : ℕ → ℕ) → weigh w (all_of (all_of f) (map items ws)) ≡ weigh w (all_of f (reverse ys)) = λ w. ap (λ z. weigh w (all_of (all_of f) z)) p.1 ∙ weigh_dealt f w count ys some in
    let long : length ws ≡ count = length_all items f P from upto own vs ws h ∙ many in (
      ys,
      p.1,
      pairs_length R xs ys p.2,
      record {
        done = pairs_reverse R xs ys p.2;
        new = λ k g. between_all items f P from upto own vs ws h k (weigh_has (all_of (all_of f) (map items ws)) k (let e = same (one_at k) in let b = has_weigh (all_of f (reverse ys)) k g in omega arith));
        apart = weigh_distinct (all_of f (reverse ys)) (λ k. let e = same (one_at k) in
            let d = distinct_weigh (all_of (all_of f) (map items ws)) (subst AreDistinct (own_all items f P from upto own vs ws h) apart) k in omega arith);
        ascend = λ share low. subst (λ l. AscendWithin (length from) (all_of f l) (length upto)) (ap (λ z. get_or z share []) p.1 ∙ share_dealt count share ys low)
            (ascend_at items f P from upto own vs ws h share (subst (λ n. share < n) (sym long) low));
      },
    )

-- ---- the same of the workers

module _ {X V W T : Type 0} (duty : X → V) (items : V → List T) (f : T → List ℕ) (P : List W → T → T → Type 0) (from upto : List W) (own : List ℕ) (vs ws : List X) (some : 0 < length vs)
    (h : Achieved (Did items f P from upto) from upto own (map duty vs) (map duty ws)) (apart : AreDistinct own) where
  mapped : (xs : List X) → map (λ (x : X). items (duty x)) xs ≡ map items (map duty xs)
  mapped xs = sym (map-map items duty xs)

  abbrev Lie : List X → List T → Type 0
  Lie xs tasks = map (λ (x : X). items (duty x)) xs ≡ dealt (length vs) tasks

  worked : (all : List T) → Lie vs all → (ys : List T) × (map items (map duty ws) ≡ dealt (length vs) ys) × (length ys ≡ length all) × AreDoneBy P f (length vs) from upto (reverse all) (reverse ys)
  worked all lie = done_by items f P from upto own (map duty vs) (map duty ws) (length vs) all some (length-map vs duty) (sym (mapped vs) ∙ lie) h apart

  many : length ws ≡ length vs
  many = sym (length-map ws duty) ∙ (length_all items f P from upto own (map duty vs) (map duty ws) h ∙ length-map vs duty)

  -- what the workers have lies as if it had been dealt
  pub lie_dealt : (all : List T) (count : ℕ) → Lie vs all → length all ≡ count → (ys : List T) × (map (λ (x : X). items (duty x)) ws ≡ dealt (length ws) ys) × (length ys ≡ count)
  lie_dealt all count lie long = let d = worked all lie in (d.0, mapped ws ∙ (d.1 ∙ ap (λ n. dealt n d.0) (sym many)), d.2 ∙ long)

  -- and what is taken back from there is done
  pub are_done : (all back : List T) → Lie vs all → map (λ (x : X). items (duty x)) ws ≡ dealt (length ws) back → length back ≡ length all → AreDoneBy P f (length vs) from upto (reverse all) (reverse back)
  are_done all back lie taken long =
      let d = worked all lie in
      subst (λ ys. AreDoneBy P f (length vs) from upto (reverse all) (reverse ys))
      (dealt_same (length vs) d.0 back some (d.2 ∙ sym long) (sym d.1 ∙ (sym (mapped ws) ∙ (taken ∙ ap (λ n. dealt n back) many)))) d.3

-- workers who were hired for shares have what was dealt to these
pub hired_lie : {X V T : Type 0} (duty : X → V) (items : V → List T) (workers : List X) (shares : List V) (count : ℕ) (xs : List T) → map duty workers ≡ shares → map items shares ≡ dealt count xs
    → (length workers ≡ count) × (map (λ (x : X). items (duty x)) workers ≡ dealt (length workers) xs)
hired_lie duty items workers shares count xs hired is =
    let lie : map (λ x. items (duty x)) workers ≡ dealt count xs = sym (map-map items duty workers) ∙ (ap (map items) hired ∙ is) in
    let many : length workers ≡ count = sym (length-map workers (λ x. items (duty x))) ∙ (ap length lie ∙ dealt_length count xs) in
    (many, lie ∙ ap (λ n. dealt n xs) (sym many))

-- the same, with its parts named otherwise
pub carried : {W T : Type 0} (P : List W → T → T → Type 0) (f : T → List ℕ) (n count : ℕ) (s0 from upto : List W) (xs zs before after : List T) → n ≡ count → s0 ≡ from → xs ≡ reverse before → after ≡ reverse zs
    → AreDoneBy P f n s0 upto (reverse xs) (reverse zs) → AreDoneBy P f count from upto before after
carried P f n count s0 from upto xs zs before after many begun turned back done =
    subst (λ (m : ℕ). AreDoneBy P f m from upto before after) many
    (subst (λ s. AreDoneBy P f n s upto before after) begun
    (subst (λ l. AreDoneBy P f n s0 upto l after) (ap reverse turned ∙ reverse-reverse before) (subst (λ l. AreDoneBy P f n s0 upto (reverse xs) l) (sym back) done)))
