-- Landings one after another.
use Rattle.std.proofs.Common.{◌≡◌, ℕ, Bool, true, false, List, [], ◌∷◌, ◌++◌, Option, Some, None, Result, Ok, Err, refl, sym, subst, ◌∙◌, append_assoc, length, slice_index_or, slice_set, arith}
use Rattle.std.specs.Prelude.{IfOk, IfErr, OnErr}
use Rattle.kfs_model.specs.Machine.{Row}
use Rattle.kfs_desk.specs.Beginning.{Beginning}
use Rattle.kfs_desk.specs.Docket.{position_of}
use Rattle.kfs_plan.specs.Judged.{Judged}
use Rattle.kfs_desk.specs.declared.history.answers.Reply.{Reply}
use Rattle.kfs_desk.specs.declared.desk.Landed.{Landed}
use Rattle.kfs_shared.specs.Calls.{HasAdded, IsLanding, IsUnanswered, answer_of}
use Rattle.kfs_shared.specs.Landings.{IsAnswered, HasLanded, HaveLanded}
use Rattle.kfs_shared.specs.declared.want.SharedBack.{SharedBack}
use Rattle.kfs_shared.specs.declared.want.SharedWant.{SharedWant}
use Rattle.kfs_shared.specs.Turns.Lists.{StartsWith}
use Rattle.kfs_shared.proofs.TurnsLemmas.Lists.{starts_same, starts_trans}
use Rattle.kfs_shared.proofs.Landed.{unanswered_begins, unanswered_whatever}

-- what a landing in a turn says of its answer
pub is_answered : {A : Type 0} (beginning : Beginning) (ended : Bool) (judged : Judged A) (s0 s1 : List Row) (o0 o1 : List ℕ) (landed : Result (Landed A) SharedWant) (r : Result Reply (SharedBack A)) → r ≡ answer_of judged.submission landed
    → IfOk landed (λ l. HasAdded beginning s0 o0 (position_of l.reply) (IsLanding judged l.reply) s1 o1) → IfErr landed (λ why. IsUnanswered beginning why s0 s1 ended) → OnErr landed (o1 ≡ o0)
    → IsAnswered beginning ended judged s0 o0 r s1 o1
is_answered beginning ended judged s0 s1 o0 o1 (Ok l) r is ok err own = subst (λ a. IsAnswered beginning ended judged s0 o0 a s1 o1) (sym is) ok
is_answered beginning ended judged s0 s1 o0 o1 (Err why) r is ok err own = subst (λ a. IsAnswered beginning ended judged s0 o0 a s1 o1) (sym is) (refl, err, own)

module _ {A L : Type 0} (beginning : Beginning) (answered : L → Result Reply (SharedBack A) → L → Type 0) where
  -- several, and then several more
  pub both_landed : (ended : Bool) (verdict : L → Option (Judged A)) (s0 s1 s2 : List Row) (o0 o1 o2 : List ℕ) (xs us ys vs : List L)
      → HaveLanded beginning answered ended verdict s0 o0 xs ys s1 o1 → HaveLanded beginning answered ended verdict s1 o1 us vs s2 o2 → HaveLanded beginning answered ended verdict s0 o0 (xs ++ us) (ys ++ vs) s2 o2
  both_landed ended verdict s0 s1 s2 o0 o1 o2 [] us [] vs a b = subst (λ s. HaveLanded beginning answered ended verdict s o0 us vs s2 o2) a.0 (subst (λ o. HaveLanded beginning answered ended verdict s1 o us vs s2 o2) a.1 b)
  both_landed ended verdict s0 s1 s2 o0 o1 o2 [] us (y ∷ ys) vs a b = absurd a
  both_landed ended verdict s0 s1 s2 o0 o1 o2 (x ∷ xs) us [] vs a b = absurd a
  both_landed ended verdict s0 s1 s2 o0 o1 o2 (x ∷ xs) us (y ∷ ys) vs a b = (a.0, a.1, a.2, both_landed ended verdict a.0 s1 s2 a.1 o1 o2 xs us ys vs a.3 b)

  -- none at all, and one alone
  pub none_landed : (ended : Bool) (verdict : L → Option (Judged A)) (s : List Row) (o : List ℕ) (xs : List L) → length xs ≡ 0 → HaveLanded beginning answered ended verdict s o xs xs s o
  none_landed ended verdict s o [] none = (refl, refl)
  none_landed ended verdict s o (x ∷ xs) none = absurd (omega (arith, none))

  pub single_landed : (ended : Bool) (verdict : L → Option (Judged A)) (s0 s1 : List Row) (o0 o1 : List ℕ) (xs : List L) (x y : L) → length xs ≡ 1 → HasLanded beginning answered ended (verdict (slice_index_or xs 0 x)) s0 o0 (slice_index_or xs 0 x) y s1 o1
      → HaveLanded beginning answered ended verdict s0 o0 xs (slice_set xs 0 y) s1 o1
  single_landed ended verdict s0 s1 o0 o1 [] x y one is = absurd (omega (arith, one))
  single_landed ended verdict s0 s1 o0 o1 (z ∷ []) x y one is = (s1, o1, is, (refl, refl))
  single_landed ended verdict s0 s1 o0 o1 (z ∷ w ∷ zs) x y one is = absurd (omega (arith, one))

  -- in a turn none comes back for want of a ticket
  answered_whatever : (ended : Bool) (judged : Judged A) (s0 s1 : List Row) (o0 o1 : List ℕ) (r : Result Reply (SharedBack A)) → IsAnswered beginning false judged s0 o0 r s1 o1 → IsAnswered beginning ended judged s0 o0 r s1 o1
  answered_whatever ended judged s0 s1 o0 o1 (Ok reply) is = is
  answered_whatever ended judged s0 s1 o0 o1 (Err back) is = (is.0, unanswered_whatever beginning back.why s0 s1 ended is.1, is.2)

  has_landed_whatever : (ended : Bool) (verdict : Option (Judged A)) (s0 s1 : List Row) (o0 o1 : List ℕ) (x y : L) → HasLanded beginning answered false verdict s0 o0 x y s1 o1 → HasLanded beginning answered ended verdict s0 o0 x y s1 o1
  has_landed_whatever ended None s0 s1 o0 o1 x y is = is
  has_landed_whatever ended (Some judged) s0 s1 o0 o1 x y is = (is.0, is.1, answered_whatever ended judged s0 s1 o0 o1 is.0 is.2)

  pub landed_whatever : (ended : Bool) (verdict : L → Option (Judged A)) (s0 s1 : List Row) (o0 o1 : List ℕ) (xs ys : List L) → HaveLanded beginning answered false verdict s0 o0 xs ys s1 o1 → HaveLanded beginning answered ended verdict s0 o0 xs ys s1 o1
  landed_whatever ended verdict s0 s1 o0 o1 [] [] is = is
  landed_whatever ended verdict s0 s1 o0 o1 [] (y ∷ ys) is = absurd is
  landed_whatever ended verdict s0 s1 o0 o1 (x ∷ xs) [] is = absurd is
  landed_whatever ended verdict s0 s1 o0 o1 (x ∷ xs) (y ∷ ys) is = (is.0, is.1, has_landed_whatever ended (verdict x) s0 is.0 o0 is.1 x y is.2, landed_whatever ended verdict is.0 s1 is.1 o1 xs ys is.3)

  -- no ticket was left
  pub handed_back : (ended : Bool) (verdict : L → Option (Judged A)) (s0 s1 : List Row) (o0 o1 : List ℕ) (xs ys : List L) → ended ≡ true → s1 ≡ s0 → o1 ≡ o0 → HaveLanded beginning answered true verdict s0 o0 xs ys s0 o0
      → HaveLanded beginning answered ended verdict s0 o0 xs ys s1 o1
  handed_back ended verdict s0 s1 o0 o1 xs ys end sees owns is =
      subst (λ e. HaveLanded beginning answered e verdict s0 o0 xs ys s1 o1) (sym end) (subst (λ s. HaveLanded beginning answered true verdict s0 o0 xs ys s o1) (sym sees) (subst (λ o. HaveLanded beginning answered true verdict s0 o0 xs ys s0 o) (sym owns) is))

  -- what had been seen begins what is seen then
  answered_begins : (ended : Bool) (judged : Judged A) (s0 s1 : List Row) (o0 o1 : List ℕ) (r : Result Reply (SharedBack A)) → IsAnswered beginning ended judged s0 o0 r s1 o1 → StartsWith s1 s0
  answered_begins ended judged s0 s1 o0 o1 (Ok reply) is = (is.between ++ is.row ∷ [], is.sees ∙ append_assoc s0 is.between (is.row ∷ []))
  answered_begins ended judged s0 s1 o0 o1 (Err back) is = unanswered_begins beginning back.why s0 s1 ended is.1

  pub has_landed_begins : (ended : Bool) (verdict : Option (Judged A)) (s0 s1 : List Row) (o0 o1 : List ℕ) (x y : L) → HasLanded beginning answered ended verdict s0 o0 x y s1 o1 → StartsWith s1 s0
  has_landed_begins ended None s0 s1 o0 o1 x y is = starts_same s1 s0 is.1
  has_landed_begins ended (Some judged) s0 s1 o0 o1 x y is = answered_begins ended judged s0 s1 o0 o1 is.0 is.2

  pub landed_begins : (ended : Bool) (verdict : L → Option (Judged A)) (s0 s1 : List Row) (o0 o1 : List ℕ) (xs ys : List L) → HaveLanded beginning answered ended verdict s0 o0 xs ys s1 o1 → StartsWith s1 s0
  landed_begins ended verdict s0 s1 o0 o1 [] [] is = starts_same s1 s0 is.0
  landed_begins ended verdict s0 s1 o0 o1 [] (y ∷ ys) is = absurd is
  landed_begins ended verdict s0 s1 o0 o1 (x ∷ xs) [] is = absurd is
  landed_begins ended verdict s0 s1 o0 o1 (x ∷ xs) (y ∷ ys) is =
      starts_trans s1 is.0 s0 (landed_begins ended verdict is.0 s1 is.1 o1 xs ys is.3) (has_landed_begins ended (verdict x) s0 is.0 o0 is.1 x y is.2)

  -- the turn has ended
  pub landed_then : (ended : Bool) (verdict : L → Option (Judged A)) (s0 s1 s2 : List Row) (o o0 o1 o2 : List ℕ) (xs ys : List L) → o0 ≡ o → s2 ≡ s1 → o2 ≡ o1 → HaveLanded beginning answered false verdict s0 o0 xs ys s1 o1
      → HaveLanded beginning answered ended verdict s0 o xs ys s2 o2
  landed_then ended verdict s0 s1 s2 o o0 o1 o2 xs ys own sees owns is =
      subst (λ first. HaveLanded beginning answered ended verdict s0 first xs ys s2 o2) own
      (subst (λ s. HaveLanded beginning answered ended verdict s0 o0 xs ys s o2) (sym sees) (subst (λ last. HaveLanded beginning answered ended verdict s0 o0 xs ys s1 last) (sym owns) (landed_whatever ended verdict s0 s1 o0 o1 xs ys is)))

  -- one verdict was given out, and its answer is kept
  pub one_given : (ended : Bool) (verdict : Option (Judged A)) (judged : Judged A) (s0 s1 : List Row) (o0 o1 : List ℕ) (x y : L) (r : Result Reply (SharedBack A)) → verdict ≡ Some judged → answered x r y → IsAnswered beginning ended judged s0 o0 r s1 o1
      → HasLanded beginning answered ended verdict s0 o0 x y s1 o1
  one_given ended verdict judged s0 s1 o0 o1 x y r of kept is = subst (λ v. HasLanded beginning answered ended v s0 o0 x y s1 o1) (sym of) (r, kept, is)
