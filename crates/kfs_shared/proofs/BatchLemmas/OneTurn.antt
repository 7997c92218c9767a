-- What is answered together: submissions are judged, and then landed in one turn.
use Rattle.std.proofs.Common.{◌≡◌, ℕ, zero, suc, ◌≤◌, ◌<◌, Bool, List, [], ◌∷◌, length, set, slice_index_or, Option, Some, None, Result, Ok, Err, sym, refl, ap, ◌∙◌, subst, arith}
use Rattle.std.specs.Prelude.{IfOk, IfErr}
use Rattle.kfs_model.specs.Machine.{Row}
use Rattle.kfs_desk.specs.Beginning.{Beginning}
use Rattle.kfs_judge.specs.Views.{View}
use Rattle.kfs_plan.specs.Judged as verdicts
use Rattle.kfs_desk.specs.declared.history.answers.Reply.{Reply}
use Rattle.kfs_plan.specs.declared.submission.Submission.{Submission}
use Rattle.kfs_shared.specs.Turns.Lists.{StartsWith}
use Rattle.kfs_shared.proofs.TurnsLemmas.Lists.{starts_same, starts_trans}
use Rattle.kfs_shared.specs.Calls.{IsUnanswered, IsViewAfter}
use Rattle.kfs_shared.specs.Landings.{HasLanded, HaveLanded}
use Rattle.kfs_shared.specs.declared.want.SharedBack.{SharedBack}
use Rattle.kfs_shared.specs.declared.want.SharedWant.{SharedWant}
use Rattle.kfs_shared.proofs.InTurn.{landed_begins}
use Rattle.kfs_shared.proofs.Landed.{unanswered_begins}
use Rattle.kfs_shared.specs.Crew.Crew.{Pairs}
use Rattle.kfs_shared.specs.Crew.Tasks.{HasWorked, IsDoneIn, all_of}
use Rattle.kfs_shared.proofs.CrewLemmas.Work.{worked_then}
use Rattle.kfs_shared.specs.Batch.Answers.{IsAnswerTo, positions_in}
use Rattle.kfs_shared.specs.Batch.Jobs.{FromOn, IsJobDone, IsJudged, IsOutcome, kept, positions_of, verdict_of}
use Rattle.kfs_shared.specs.declared.batch.job.Hand.{Hand}
use Rattle.kfs_shared.specs.declared.batch.job.Hand.TheVariants.{Waiting, Taken, Judged, Replied, Back}
use Rattle.kfs_shared.proofs.BatchLemmas.Answered.{answer_worked, is_answer, nothing_made, why_free}

-- ---- one after another

-- behind the last one
pub from_end : {X : Type 0} (P : X → X → Type 0) (n : ℕ) (xs : List X) → length xs ≤ n → FromOn P n xs xs
from_end P zero [] low = tt
from_end P zero (x ∷ xs) low = absurd (omega arith)
from_end P (suc n) [] low = tt
from_end P (suc n) (x ∷ xs) low = (refl, from_end P n xs (omega arith))

-- one, and then those behind it
pub from_next : {X : Type 0} (P : X → X → Type 0) (n : ℕ) (xs ys : List X) (d z : X) → n < length xs → P (slice_index_or xs n d) z → FromOn P (suc n) (set xs n z) ys → FromOn P n xs ys
from_next P zero [] ys d z low is later = absurd (omega arith)
from_next P zero (x ∷ xs) [] d z low is later = absurd later
from_next P zero (x ∷ xs) (y ∷ ys) d z low is later = (subst (P x) (sym later.0) is, later.1)
from_next P (suc n) [] ys d z low is later = absurd (omega arith)
from_next P (suc n) (x ∷ xs) [] d z low is later = absurd later
from_next P (suc n) (x ∷ xs) (y ∷ ys) d z low is later = (later.0, from_next P n xs ys d z (omega arith) is later.1)

-- ---- the view

pub view_begins : {A : Type 0} (beginning : Beginning) (s0 s1 : List Row) (ended : Bool) (r : Result (View A) SharedWant) → IfOk r (λ view. IsViewAfter beginning view s0 s1) → IfErr r (λ why. IsUnanswered beginning why s0 s1 ended) → StartsWith s1 s0
view_begins beginning s0 s1 ended (Ok view) ok err = ok.begins
view_begins beginning s0 s1 ended (Err why) ok err = unanswered_begins beginning why s0 s1 ended err

-- ---- one landing, said of where the submission is

kept_same : {A : Type 0} (r : Result Reply (SharedBack A)) → positions_of (kept r) ≡ positions_in r
kept_same (Ok reply) = refl
kept_same (Err back) = refl

kept_outcome : {A : Type 0} (beginning : Beginning) (docket : List Row) (submission : Submission A) (r : Result Reply (SharedBack A)) → IsAnswerTo beginning docket submission r → IsOutcome beginning docket (Waiting submission) (kept r)
kept_outcome beginning docket submission (Ok reply) is = is
kept_outcome beginning docket submission (Err back) is = is

module _ {A : Type 0} (beginning : Beginning) (ended : Bool) where
  abbrev Lands : (before : Hand A) → (seen : List Row) (own : List ℕ) → (after : Hand A) → (seen_then : List Row) (own_then : List ℕ) → Type 0
  Lands before seen own after seen_then own_then = HasLanded beginning (λ (h : Hand A) r (k : Hand A). k ≡ kept r) ended (verdict_of before) seen own before after seen_then own_then

  -- without a verdict and without a reply
  nothing_landed : (before after : Hand A) (s0 s1 : List Row) (o0 o1 : List ℕ) → verdict_of before ≡ None → positions_of before ≡ [] → Lands before s0 o0 after s1 o1 → HasWorked s0 o0 (positions_of after) s1 o1
  nothing_landed before after s0 s1 o0 o1 none empty landed =
      let is = subst (λ v. HasLanded beginning (λ (h : Hand A) r (k : Hand A). k ≡ kept r) ended v s0 o0 before after s1 o1) none landed in
      subst (λ ks. HasWorked s0 o0 ks s1 o1) (sym (ap positions_of is.0 ∙ empty)) (nothing_made s0 s1 o0 o1 (starts_same s1 s0 is.1) is.2)

  hand_worked : (u v w : Hand A) (s0 s1 : List Row) (o0 o1 : List ℕ) → IsJudged u v → Lands v s0 o0 w s1 o1 → HasWorked s0 o0 (positions_of w) s1 o1
  hand_worked (Waiting s) (Waiting other) w s0 s1 o0 o1 judged landed = absurd judged
  hand_worked (Waiting s) Taken w s0 s1 o0 o1 judged landed = absurd judged
  hand_worked (Waiting s) (Judged v) w s0 s1 o0 o1 judged landed =
      subst (λ ks. HasWorked s0 o0 ks s1 o1) (sym (ap positions_of landed.1 ∙ kept_same landed.0)) (answer_worked beginning ended v.value s0 s1 o0 o1 landed.0 landed.2)
  hand_worked (Waiting s) (Replied reply) w s0 s1 o0 o1 judged landed = absurd judged
  hand_worked (Waiting s) (Back back) w s0 s1 o0 o1 judged landed = nothing_landed (Back back) w s0 s1 o0 o1 refl refl landed
  hand_worked Taken v w s0 s1 o0 o1 judged landed = nothing_landed v w s0 s1 o0 o1 (ap verdict_of judged) (ap positions_of judged) landed
  hand_worked (Judged verdict) v w s0 s1 o0 o1 judged landed = nothing_landed v w s0 s1 o0 o1 (ap verdict_of judged) (ap positions_of judged) landed
  hand_worked (Replied reply) v w s0 s1 o0 o1 judged landed = nothing_landed v w s0 s1 o0 o1 (ap verdict_of judged) (ap positions_of judged) landed
  hand_worked (Back back) v w s0 s1 o0 o1 judged landed = nothing_landed v w s0 s1 o0 o1 (ap verdict_of judged) (ap positions_of judged) landed

  -- what was judged and then landed has an outcome
  hand_done : (u v w : Hand A) (s0 s1 : List Row) (o0 o1 : List ℕ) → IsJudged u v → Lands v s0 o0 w s1 o1 → IsOutcome beginning s1 u w
  hand_done (Waiting s) (Waiting other) w s0 s1 o0 o1 judged landed = absurd judged
  hand_done (Waiting s) Taken w s0 s1 o0 o1 judged landed = absurd judged
  hand_done (Waiting s) (Judged v) w s0 s1 o0 o1 judged landed =
      subst (IsOutcome beginning s1 (Waiting s)) (sym landed.1) (kept_outcome beginning s1 s landed.0 (is_answer beginning ended v.value s s0 s1 o0 o1 landed.0 judged landed.2))
  hand_done (Waiting s) (Replied reply) w s0 s1 o0 o1 judged landed = absurd judged
  hand_done (Waiting s) (Back back) w s0 s1 o0 o1 judged landed = subst (IsOutcome beginning s1 (Waiting s)) (sym landed.0) (judged.0, why_free beginning s1 back.why judged.1)
  hand_done Taken v w s0 s1 o0 o1 judged landed = tt
  hand_done (Judged verdict) v w s0 s1 o0 o1 judged landed = tt
  hand_done (Replied reply) v w s0 s1 o0 o1 judged landed = tt
  hand_done (Back back) v w s0 s1 o0 o1 judged landed = tt

-- ---- all landings of a turn

module _ {A J : Type 0} (number : J → ℕ) (hand : J → Hand A) (beginning : Beginning) (ended : Bool) where
  abbrev Keeps : J → Result Reply (SharedBack A) → J → Type 0
  Keeps before answer after = (number after ≡ number before) × (hand after ≡ kept answer)

  to_hand : (verdict : Option (verdicts.Judged A)) (v w : J) (s0 s1 : List Row) (o0 o1 : List ℕ) → HasLanded beginning Keeps ended verdict s0 o0 v w s1 o1
      → HasLanded beginning (λ (h : Hand A) r (k : Hand A). k ≡ kept r) ended verdict s0 o0 (hand v) (hand w) s1 o1
  to_hand None v w s0 s1 o0 o1 is = (ap hand is.0, is.1, is.2)
  to_hand (Some judged) v w s0 s1 o0 o1 is = (is.0, is.1.1, is.2)

  same_number : (verdict : Option (verdicts.Judged A)) (v w : J) (s0 s1 : List Row) (o0 o1 : List ℕ) → HasLanded beginning Keeps ended verdict s0 o0 v w s1 o1 → number w ≡ number v
  same_number None v w s0 s1 o0 o1 is = ap number is.0
  same_number (Some judged) v w s0 s1 o0 o1 is = is.1.0

  pub all_worked : (us vs ws : List J) (s0 s1 : List Row) (o0 o1 : List ℕ) → Pairs (λ u v. (number v ≡ number u) × IsJudged (hand u) (hand v)) us vs
      → HaveLanded beginning Keeps ended (λ v. verdict_of (hand v)) s0 o0 vs ws s1 o1 → HasWorked s0 o0 (all_of (λ w. positions_of (hand w)) ws) s1 o1
  all_worked [] [] [] s0 s1 o0 o1 a b = nothing_made s0 s1 o0 o1 (starts_same s1 s0 b.0) b.1
  all_worked [] [] (w ∷ ws) s0 s1 o0 o1 a b = absurd b
  all_worked [] (v ∷ vs) ws s0 s1 o0 o1 a b = absurd a
  all_worked (u ∷ us) [] ws s0 s1 o0 o1 a b = absurd a
  all_worked (u ∷ us) (v ∷ vs) [] s0 s1 o0 o1 a b = absurd b
  all_worked (u ∷ us) (v ∷ vs) (w ∷ ws) s0 s1 o0 o1 a b =
      worked_then s0 b.0 s1 o0 b.1 o1 (positions_of (hand w)) (all_of (λ w. positions_of (hand w)) ws)
      (hand_worked beginning ended (hand u) (hand v) (hand w) s0 b.0 o0 b.1 a.0.1 (to_hand (verdict_of (hand v)) v w s0 b.0 o0 b.1 b.2)) (all_worked us vs ws b.0 s1 b.1 o1 a.1 b.3)

  pub all_done : (us vs ws : List J) (s0 s1 : List Row) (o0 o1 : List ℕ) → Pairs (λ u v. (number v ≡ number u) × IsJudged (hand u) (hand v)) us vs
      → HaveLanded beginning Keeps ended (λ v. verdict_of (hand v)) s0 o0 vs ws s1 o1 → Pairs (IsDoneIn (λ rows u w. IsJobDone beginning rows (number u) (hand u) (number w) (hand w)) s1) us ws
  all_done [] [] [] s0 s1 o0 o1 a b = tt
  all_done [] [] (w ∷ ws) s0 s1 o0 o1 a b = absurd b
  all_done [] (v ∷ vs) ws s0 s1 o0 o1 a b = absurd a
  all_done (u ∷ us) [] ws s0 s1 o0 o1 a b = absurd a
  all_done (u ∷ us) (v ∷ vs) [] s0 s1 o0 o1 a b = absurd b
  all_done (u ∷ us) (v ∷ vs) (w ∷ ws) s0 s1 o0 o1 a b =
      let done = hand_done beginning ended (hand u) (hand v) (hand w) s0 b.0 o0 b.1 a.0.1 (to_hand (verdict_of (hand v)) v w s0 b.0 o0 b.1 b.2) in
      let later = landed_begins beginning Keeps ended (λ v. verdict_of (hand v)) b.0 s1 b.1 o1 vs ws b.3 in
      ((b.0, later, (same_number (verdict_of (hand v)) v w s0 b.0 o0 b.1 b.2 ∙ a.0.0, done)), all_done us vs ws b.0 s1 b.1 o1 a.1 b.3)

-- a view, what is seen in the turn, and the landings
pub turn_worked : (s0 s1 met s2 : List Row) (o0 o1 o2 ks : List ℕ) → StartsWith s1 s0 → o1 ≡ o0 → StartsWith met s1 → HasWorked met o1 ks s2 o2 → HasWorked s0 o0 ks s2 o2
turn_worked s0 s1 met s2 o0 o1 o2 ks begins own more landed = worked_then s0 met s2 o0 o1 o2 [] ks (nothing_made s0 met o0 o1 (starts_trans met s1 s0 more begins) own) landed
