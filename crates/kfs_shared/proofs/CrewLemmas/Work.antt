-- One task after another.
use Rattle.std.proofs.Common.{◌≡◌, ℕ, ◌+◌, ◌≤◌, List, [], ◌∷◌, ◌++◌, length, sym, refl, ap, subst, ◌∙◌, append_assoc, arith}
use Rattle.kfs_shared.specs.Turns.Lists.{StartsWith}
use Rattle.kfs_shared.specs.Crew.Crew.{Pairs}
use Rattle.kfs_shared.specs.Crew.Tasks.{AscendWithin, all_of, HasWorked, IsDoneIn, HasDone}
use Rattle.kfs_shared.proofs.TurnsLemmas.Lists.{starts_trans}
use Rattle.kfs_shared.proofs.CrewLemmas.Crews.{pairs_both}

-- ---- positions that rise

ascend_lower : (from low : ℕ) (ks : List ℕ) (to : ℕ) → low ≤ from → AscendWithin from ks to → AscendWithin low ks to
ascend_lower from low [] to le a = omega arith
ascend_lower from low (k ∷ ks) to le a = let b = a.0 in (omega arith, a.1)

pub ascend_higher : (from : ℕ) (ks : List ℕ) (to high : ℕ) → to ≤ high → AscendWithin from ks to → AscendWithin from ks high
ascend_higher from [] to high le a = omega arith
ascend_higher from (k ∷ ks) to high le a = (a.0, ascend_higher (k + 1) ks to high le a.1)

ascend_then : (from mid to : ℕ) (ks ls : List ℕ) → AscendWithin from ks mid → AscendWithin mid ls to → AscendWithin from (ks ++ ls) to
ascend_then from mid to [] ls a b = ascend_lower mid from ls to a b
ascend_then from mid to (k ∷ ks) ls a b = (a.0, ascend_then (k + 1) mid to ks ls a.1 b)

-- ---- two parts of the tasks

all_append : {X : Type 0} (f : X → List ℕ) (xs ys : List X) → all_of f (xs ++ ys) ≡ all_of f xs ++ all_of f ys
all_append f [] ys = refl
all_append f (x ∷ xs) ys = ap (λ z. f x ++ z) (all_append f xs ys) ∙ sym (append_assoc (f x) (all_of f xs) (all_of f ys))

pub worked_then : {W : Type 0} (s0 s1 s2 : List W) (o0 o1 o2 ks ls : List ℕ) → HasWorked s0 o0 ks s1 o1 → HasWorked s1 o1 ls s2 o2 → HasWorked s0 o0 (ks ++ ls) s2 o2
worked_then s0 s1 s2 o0 o1 o2 ks ls a b = record {
  begins = starts_trans s2 s1 s0 b.begins a.begins;
  owns = b.owns ∙ (ap (λ (z : List ℕ). z ++ ls) a.owns ∙ append_assoc o0 ks ls);
  ascend = ascend_then (length s0) (length s1) (length s2) ks ls a.ascend b.ascend;
}

pub both_worked : {X W : Type 0} (f : X → List ℕ) (s0 s1 s2 : List W) (o0 o1 o2 : List ℕ) (xs ys : List X) → HasWorked s0 o0 (all_of f xs) s1 o1 → HasWorked s1 o1 (all_of f ys) s2 o2 → HasWorked s0 o0 (all_of f (xs ++ ys)) s2 o2
both_worked f s0 s1 s2 o0 o1 o2 xs ys a b = subst (λ ks. HasWorked s0 o0 ks s2 o2) (sym (all_append f xs ys)) (worked_then s0 s1 s2 o0 o1 o2 (all_of f xs) (all_of f ys) a b)

pub done_on : {W T : Type 0} (P : List W → T → T → Type 0) (longer docket : List W) → StartsWith longer docket → (xs ys : List T) → Pairs (IsDoneIn P docket) xs ys → Pairs (IsDoneIn P longer) xs ys
done_on P longer docket on [] [] h = tt
done_on P longer docket on [] (y ∷ ys) h = absurd h
done_on P longer docket on (x ∷ xs) [] h = absurd h
done_on P longer docket on (x ∷ xs) (y ∷ ys) h = ((h.0.0, starts_trans longer docket h.0.0 on h.0.1, h.0.2), done_on P longer docket on xs ys h.1)

pub both_done : {W T : Type 0} (P : List W → T → T → Type 0) (s1 s2 : List W) (xs us ys vs : List T) → StartsWith s2 s1 → Pairs (IsDoneIn P s1) xs ys → Pairs (IsDoneIn P s2) us vs → Pairs (IsDoneIn P s2) (xs ++ us) (ys ++ vs)
both_done P s1 s2 xs us ys vs on a b = pairs_both (IsDoneIn P s2) xs us ys vs (done_on P s2 s1 on xs ys a) b

-- all tasks of a worker whose pass had no row of its own
pub has_done : {W T : Type 0} (f : T → List ℕ) (P : List W → T → T → Type 0) (s0 s1 : List W) (o0 o1 : List ℕ) (before after : List T) → o0 ≡ [] → HasWorked s0 o0 (all_of f after) s1 o1 → Pairs (IsDoneIn P s1) before after → HasDone P f s0 s1 o1 before after
has_done f P s0 s1 o0 o1 before after none worked done = record {
  owns = worked.owns ∙ ap (λ (z : List ℕ). z ++ all_of f after) none;
  ascend = worked.ascend;
  done = done;
}
