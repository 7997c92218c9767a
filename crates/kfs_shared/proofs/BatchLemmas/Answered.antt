-- What the calls for one submission tell of its worker's pass.
use Rattle.std.proofs.Common.{◌≡◌, ◌≢◌, ℕ, Bool, List, [], ◌∷◌, ◌++◌, length, sym, refl, ap, subst, ◌∙◌, arith, length-append, append_assoc, append-nil, Result, Ok, Err}
use Rattle.kfs_model.specs.Judgement.{State}
use Rattle.kfs_model.specs.Machine.{Row}
use Rattle.kfs_desk.specs.History.Legal.{IsLegalDocket}
use Rattle.kfs_plan.specs.Judged.{Judged}
use Rattle.kfs_plan.specs.Judging.{submission_of}
use Rattle.kfs_desk.specs.declared.history.answers.Reply.{Reply}
use Rattle.kfs_plan.specs.declared.submission.Submission.{Submission}
use Rattle.kfs_desk.specs.Beginning.{Beginning, IsDocketFrom}
use Rattle.kfs_desk.specs.Docket.{position_of}
use Rattle.kfs_desk.specs.Machine.{AnswerMeans, IsStep}
use Rattle.kfs_shared.proofs.TurnsLemmas.Lists.{starts_longer, starts_trans}
use Rattle.kfs_shared.specs.Turns.Lists.{StartsWith}
use Rattle.kfs_shared.specs.Calls.{HasAdded, IsLanding, IsUnanswered}
use Rattle.kfs_shared.specs.Landings.{IsAnswered}
use Rattle.kfs_shared.proofs.Landed.{unanswered_begins}
use Rattle.kfs_shared.specs.declared.want.SharedBack.{SharedBack}
use Rattle.kfs_shared.specs.declared.want.SharedWant.{SharedWant}
use Rattle.kfs_shared.specs.declared.want.SharedWant.TheVariants.{OutOfMemory, DocketFull, TurnsSpent}
use Rattle.kfs_shared.specs.Crew.Tasks.{HasWorked}
use Rattle.kfs_shared.specs.Batch.Answers.{IsAnswerTo, IsRepliedIn, IsWhyLeft, positions_in}

-- ---- no answer

pub unanswered_why : (beginning : Beginning) (why : SharedWant) (s0 s1 : List Row) (ended : Bool) → IsUnanswered beginning why s0 s1 ended → IsWhyLeft beginning s1 why
unanswered_why beginning OutOfMemory s0 s1 ended h = tt
unanswered_why beginning DocketFull s0 s1 ended h = h.1
unanswered_why beginning TurnsSpent s0 s1 ended h = tt

pub nothing_made : (s0 s1 : List Row) (o0 o1 : List ℕ) → StartsWith s1 s0 → o1 ≡ o0 → HasWorked s0 o0 [] s1 o1
nothing_made s0 s1 o0 o1 begins own = record { begins = begins; owns = own ∙ sym (append-nil o0); ascend = starts_longer s1 s0 begins }

-- ---- an answer

pub one_made : (beginning : Beginning) (s1 s2 : List Row) (o1 o2 : List ℕ) (position : ℕ) (P : State → Row → State → Type 0) → HasAdded beginning s1 o1 position P s2 o2 → HasWorked s1 o1 (position ∷ []) s2 o2
one_made beginning s1 s2 o1 o2 position P is =
    let all = ap length is.sees ∙ length-append (s1 ++ is.between) (is.row ∷ []) in
    let before = length-append s1 is.between in
    let at = is.at in record {
      begins = (is.between ++ is.row ∷ [], is.sees ∙ append_assoc s1 is.between (is.row ∷ []));
      owns = is.owns;
      ascend = (omega arith, omega arith);
    }

pub is_replied : {A : Type 0} (beginning : Beginning) (s0 s1 : List Row) (o0 o1 : List ℕ) (judged : Judged A) (submission : Submission A) (reply : Reply) → judged.submission ≡ submission
    → HasAdded beginning s0 o0 (position_of reply) (IsLanding judged reply) s1 o1 → IsRepliedIn beginning.opening s1 submission reply
is_replied {A} beginning s0 s1 o0 o1 judged submission reply same is = record {
  earlier = s0 ++ is.between;
  before = is.before;
  row = is.row;
  after = is.after;
  stands = ([], is.sees ∙ sym (append-nil ((s0 ++ is.between) ++ is.row ∷ [])));
  at = is.at;
  led = is.led;
  leads = subst (λ rows. IsLegalDocket beginning.opening rows is.after) is.sees is.leads;
  step = subst (λ (s : Submission A). IsStep is.before (submission_of s) reply is.row is.after) same is.is.step;
  meaning = subst (λ (s : Submission A). AnswerMeans is.before (submission_of s) reply is.after) same is.is.meaning;
}

-- ---- a landing's answer

pub answer_worked : {A : Type 0} (beginning : Beginning) (ended : Bool) (judged : Judged A) (s0 s1 : List Row) (o0 o1 : List ℕ) (r : Result Reply (SharedBack A)) → IsAnswered beginning ended judged s0 o0 r s1 o1 → HasWorked s0 o0 (positions_in r) s1 o1
answer_worked beginning ended judged s0 s1 o0 o1 (Ok reply) is = one_made beginning s0 s1 o0 o1 (position_of reply) (IsLanding judged reply) is
answer_worked beginning ended judged s0 s1 o0 o1 (Err back) is = nothing_made s0 s1 o0 o1 (unanswered_begins beginning back.why s0 s1 ended is.1) is.2

pub is_answer : {A : Type 0} (beginning : Beginning) (ended : Bool) (judged : Judged A) (submission : Submission A) (s0 s1 : List Row) (o0 o1 : List ℕ) (r : Result Reply (SharedBack A)) → judged.submission ≡ submission
    → IsAnswered beginning ended judged s0 o0 r s1 o1 → IsAnswerTo beginning s1 submission r
is_answer beginning ended judged submission s0 s1 o0 o1 (Ok reply) same is = is_replied beginning s0 s1 o0 o1 judged submission reply same is
is_answer beginning ended judged submission s0 s1 o0 o1 (Err back) same is = (is.0 ∙ same, unanswered_why beginning back.why s0 s1 ended is.1)

-- ---- a submission that is left

pub why_free : (beginning : Beginning) (docket : List Row) (why : SharedWant) → why ≢ DocketFull → IsWhyLeft beginning docket why
why_free beginning docket OutOfMemory other = tt
why_free beginning docket DocketFull other = absurd (other refl)
why_free beginning docket TurnsSpent other = tt

-- ---- what stands in a docket stands in a longer one

pub replied_on : {A : Type 0} (opening : State) (longer docket : List Row) (submission : Submission A) (reply : Reply) → StartsWith longer docket → IsRepliedIn opening docket submission reply → IsRepliedIn opening longer submission reply
replied_on opening longer docket submission reply on is = record {
  earlier = is.earlier;
  before = is.before;
  row = is.row;
  after = is.after;
  stands = starts_trans longer docket (is.earlier ++ is.row ∷ []) on is.stands;
  at = is.at;
  led = is.led;
  leads = is.leads;
  step = is.step;
  meaning = is.meaning;
}

-- a full docket is the last one
pub why_on : (beginning : Beginning) (longer docket : List Row) (why : SharedWant) → StartsWith longer docket → IsDocketFrom beginning longer → IsWhyLeft beginning docket why → IsWhyLeft beginning longer why
why_on beginning longer docket OutOfMemory on whole h = tt
why_on beginning longer docket DocketFull on whole h = let more = starts_longer longer docket on in let most = whole.within in omega arith
why_on beginning longer docket TurnsSpent on whole h = tt
