-- Verdicts of the code as they are held.
use Rattle.std.proofs.Common.{◌≡◌, ◌⊎◌, inl, inr, ℕ, Bool, true, false, List, [], ◌∷◌, map, Some, Result, Ok, Err, IfOk, refl, sym, ap, subst, ◌∙◌}
use Rattle.std.specs.Prelude.{◌≢◌, ◌↔◌, length, All, Contains, IsFalse}
use Rattle.std.specs.List.{AllByRecursion}
use Rattle.std.proofs.lemmas.List.Elements.{All-map}
use Rattle.kfs_model.specs.Judgement.{State, Submission, Fault, Verdict, Yes, No, IsJudgement, client_sight_of}
use Rattle.kfs_model.specs.Lease.{holds, row_of}
use Rattle.kfs_model.specs.Looked.{looked_cells}
use Rattle.kfs_model.specs.Order.{IsInOrder}
use Rattle.kfs_model.specs.Sight.{Cell, Answer, ClientSight, answer}
use Rattle.kfs_judge.specs.Views.{View, Read, ReadAnswer, clients_of, client_sight_in, cell_of, answer_of, AgreesAlong, Agrees}
use Rattle.kfs_plan.specs.Judged.{Judged}
use Rattle.kfs_plan.specs.Judging.{AreLooked, AreOfLog, AgreesWithReads, IsVerdict, TellsVerdict, refusal_of, stops_before, submission_of}
use Rattle.kfs_plan.specs.declared.submission.Fault.{Fault as CodeFault}
use Rattle.kfs_plan.specs.declared.submission.Outcome.{Outcome}
use Rattle.kfs_plan.specs.declared.submission.Outcome.TheVariants as outcomes
use Rattle.kfs_plan.specs.declared.submission.Submission.{Submission as CodeSubmission}
use Rattle.kfs_desk.specs.declared.history.answers.Reply.{Reply}
use Rattle.kfs_desk.specs.Docket.{is_rejudged}
use Rattle.kfs_desk.specs.Machine.{Desk, IsAnswered, IsCurrent, IsViewOf}
use Rattle.kfs_desk.specs.Verdict.Verdict.{AreLookedAt, ComesTo, IsUpToDate, IsVerdictOn, LandsVerdict, verdict_of}

-- ---- what a verdict of the code rests on

abbrev cells_of : List (Read × ReadAnswer) → List (Cell × Answer)
cells_of reads = map (λ read. (cell_of read.0, answer_of read.1)) reads

to_cells : (reads : List (Read × ReadAnswer)) (sight : ClientSight) → AgreesAlong reads sight → AllByRecursion (λ read. answer sight read.0 ≡ read.1) (cells_of reads)
to_cells [] sight all = tt
to_cells (read ∷ reads) sight all = (all.0, to_cells reads sight all.1)

from_cells : (reads : List (Read × ReadAnswer)) (sight : ClientSight) → AllByRecursion (λ read. answer sight read.0 ≡ read.1) (cells_of reads) → AgreesAlong reads sight
from_cells [] sight all = tt
from_cells (read ∷ reads) sight all = (all.0, from_cells reads sight all.1)

module _ {A : Type 0} (s : State) (judged : Judged A) where
  pub up_to_date : IsCurrent s judged → IsUpToDate s (verdict_of judged)
  up_to_date is = record { row = is.row; answers = to_cells judged.reads _ is.agrees.each }

  pub current : IsUpToDate s (verdict_of judged) → IsCurrent s judged
  current is = record { row = is.row; agrees = record { each = from_cells judged.reads _ is.answers } }

-- a landing of the code is the landing of the held verdict
pub lands_verdict : {A : Type 0} (desk next : Desk) (judged : Judged A) (reply : Reply) → length desk.docket ≢ desk.limit → ◌↔◌ (IsFalse (is_rejudged reply)) (IsCurrent desk.state judged)
    → IsAnswered desk (submission_of judged.submission) (is_rejudged reply) reply next → LandsVerdict desk (verdict_of judged) reply next
lands_verdict desk next judged reply room again answered = record {
  room = room;
  rejudged = (λ once. up_to_date desk.state judged (again.0 once), λ is. again.1 (current desk.state judged is));
  answered = answered;
}

-- ---- what a submission comes to

module _ {A : Type 0} (submission : Submission) where
  comes_yes : (outcome : Outcome A (List ℕ)) (log : _) (plan : _) (net : _) (blocks : ℕ) (t : State) → IsVerdict {A = A} t submission (outcomes.Yes log plan net blocks) → ComesTo t submission (Ok blocks)
  comes_yes outcome log plan net blocks t is = by is.verdict is.judgement is.told
    where
      by : (verdict : Verdict) → IsJudgement t submission verdict → TellsVerdict t submission (outcomes.Yes log plan net blocks) verdict → ComesTo t submission (Ok blocks)
      by (Yes after marks) judgement told = (after, marks, judgement, told.need_told)
      by (No refusal) judgement told = absurd told

  comes_no : (fault : CodeFault) (refusal : Fault) → refusal_of fault ≡ Some refusal → (t : State) → IsVerdict {A = A} t submission (outcomes.No fault) → ComesTo t submission (Err refusal)
  comes_no fault refusal is t there = by there.verdict there.judgement there.told
    where
      by : (verdict : Verdict) → IsJudgement t submission verdict → TellsVerdict {A = A} t submission (outcomes.No fault) verdict → ComesTo t submission (Err refusal)
      by (Yes after marks) judgement told = absurd told
      by (No other) judgement told =
          let same : other ≡ refusal = some (sym told ∙ is) in
          subst (λ (f : Fault). IsJudgement t submission (No f)) same judgement
        where
          some : {X : Type 0} {x y : X} → Some x ≡ Some y → x ≡ y
          some e = cc

  -- what it comes to in one state, in each state of which the outcome is the verdict
  abbrev Told : Outcome A (List ℕ) → Type 0
  Told outcome = (told : Result ℕ Fault) × ((t : State) → IsVerdict t submission outcome → ComesTo t submission told)

  told_by : (s : State) (outcome : Outcome A (List ℕ)) → IsVerdict s submission outcome → Told outcome
  told_by s (outcomes.Yes log plan net blocks) here = (Ok blocks, comes_yes (outcomes.Yes log plan net blocks) log plan net blocks)
  told_by s (outcomes.No fault) here = by here.verdict here.told
    where
      by : (verdict : Verdict) → TellsVerdict {A = A} s submission (outcomes.No fault) verdict → Told (outcomes.No fault)
      by (Yes after marks) told = absurd told
      by (No refusal) told = (Err refusal, comes_no fault refusal told)

-- ---- a verdict that is made against a view of the state

module _ {A : Type 0} (s : State) (in_order : IsInOrder s) (view : View A) (of : IsViewOf view s) where
  seen : (number : ℕ) → client_sight_in view number ≡ client_sight_of s number
  seen number = λ i. record { sight = of.sight i; held = holds (of.leases i) number }

  looked_at : (submission : Submission) (reads : List (Read × ReadAnswer)) → AreOfLog view submission reads → AreLookedAt s submission (cells_of reads)
  looked_at submission reads is = record {
    client = is.client;
    row = sym (ap (λ rows. row_of rows submission.client) of.clients) ∙ is.row;
    log = is.log;
    spelled = is.spelled;
    owner = is.owner;
    among = All-map (λ (read : Cell × Answer). Contains (looked_cells is.client (client_sight_of s submission.client) is.log.entries) read.0) (λ read. (cell_of read.0, answer_of read.1)) reads
        (subst (λ (sight : ClientSight). All (λ (read : Read × ReadAnswer). Contains (looked_cells is.client sight is.log.entries) (cell_of read.0)) reads) (seen submission.client) is.among);
  }

  looked_by : (submission : Submission) (outcome : Outcome A (List ℕ)) (reads : List (Read × ReadAnswer)) → AreLooked view submission outcome reads → (cells_of reads ≡ []) ⊎ AreLookedAt s submission (cells_of reads)
  looked_by submission outcome reads is = by (stops_before outcome) refl
    where
      by : (stops : Bool) → stops_before outcome ≡ stops → (cells_of reads ≡ []) ⊎ AreLookedAt s submission (cells_of reads)
      by true stops = inl (ap cells_of (is.unread stops))
      by false goes = inr (looked_at submission reads (is.looked goes))

  -- what a judgement says of its verdict
  abbrev pub Says : CodeSubmission A → Judged A → Type 0
  Says submission judged =
      (judged.client ≡ row_of (clients_of view) submission.client)
      × ((t : State) → AgreesWithReads t submission.client judged.client judged.reads → IsVerdict t (submission_of submission) judged.outcome)
      × Agrees judged.reads (client_sight_in view submission.client)
      × AreLooked view (submission_of submission) judged.outcome judged.reads

  says_verdict : (judged : Judged A) → Says judged.submission judged → IsVerdictOn s (submission_of judged.submission) (verdict_of judged)
  says_verdict judged says =
      let number = judged.submission.client in
      let now : IsCurrent s judged = record { row = sym (says.0 ∙ ap (λ rows. row_of rows number) of.clients); agrees = subst (Agrees judged.reads) (seen number) says.2 } in
      let told = told_by (submission_of judged.submission) s judged.outcome (says.1 s (record { sound = in_order.sound; row = now.row; agrees = now.agrees })) in
      record {
        submitted = refl;
        current = up_to_date s judged now;
        told = told.0;
        enough = λ t sound is.
            let there = current t judged is in
            told.1 t (says.1 t (record { sound = sound; row = there.row; agrees = there.agrees }));
        looked = looked_by (submission_of judged.submission) judged.outcome judged.reads says.3;
      }

  pub judged_verdict : (submission : CodeSubmission A) (judged : Judged A) → judged.submission ≡ submission → Says submission judged → IsVerdictOn s (submission_of submission) (verdict_of judged)
  judged_verdict submission judged same says =
      let P : CodeSubmission A → Type 0 = λ it. IsVerdictOn s (submission_of it) (verdict_of judged) in
      let Q : CodeSubmission A → Type 0 = λ it. Says it judged in
      subst P same (says_verdict judged (subst Q (sym same) says))

  -- of whatever a judgement gave
  pub judged_verdicts : {E : Type 0} (submission : CodeSubmission A) (result : Result (Judged A) E) → IfOk result (λ judged. judged.submission ≡ submission)
      → IfOk result (λ judged. judged.client ≡ row_of (clients_of view) submission.client)
      → IfOk result (λ judged. (t : State) → AgreesWithReads t submission.client judged.client judged.reads → IsVerdict t (submission_of submission) judged.outcome)
      → IfOk result (λ judged. Agrees judged.reads (client_sight_in view submission.client)) → IfOk result (λ judged. AreLooked view (submission_of submission) judged.outcome judged.reads)
      → IfOk result (λ judged. IsVerdictOn s (submission_of submission) (verdict_of judged))
  judged_verdicts submission (Ok judged) same client known agrees among = judged_verdict submission judged same (client, known, agrees, among)
  judged_verdicts submission (Err back) same client known agrees among = tt
