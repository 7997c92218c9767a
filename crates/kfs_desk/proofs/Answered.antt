-- What a verdict comes to at the desk is the machine's step, whatever the verdict and its answer.
use Rattle.std.proofs.Common.{◌≡◌, Bool, ℕ, ◌≤◌, ◌<◌, List, [], ◌∷◌, ◌++◌, length, refl, sym, ap, subst, ◌∙◌, arith}
use Rattle.std.specs.Option.{option_map}
use Rattle.kfs_model.specs.Lease.{Leases}
use Rattle.kfs_model.specs.Judgement.{IsJudgement, No, NoRoom, Refused, State, Submission, Verdict, Yes, reply_to}
use Rattle.kfs_model.specs.Machine.{Call, IsRead, Replied, Row, Submit, outcome_of, replied}
use Rattle.kfs_model.proofs.RowFits.{row_fits}
use Rattle.kfs_types.specs.declared.entry.Log.{Log}
use Rattle.kfs_types.specs.declared.plan.Plan.{Plan}
use Rattle.kfs_image_nodes.specs.declared.net.Net.{Net}
use Rattle.kfs_model.specs.Device.ShownTree.{DeviceImage, IsLawful}
use Rattle.kfs_plan.specs.Judging.{IsVerdict, TellsVerdict}
use Rattle.kfs_plan.specs.declared.submission.Fault.{Fault}
use Rattle.kfs_plan.specs.declared.submission.Outcome.{Outcome}
use Rattle.kfs_plan.specs.declared.submission.Outcome.TheVariants as outcomes
use Rattle.kfs_desk.specs.declared.history.answers.Reply.{Reply}
use Rattle.kfs_desk.specs.declared.history.answers.Reply.TheVariants as replies
use Rattle.kfs_desk.specs.Landing.{AnswersOutcome, CanLand, CanLandYes, HasLanded, ended_by, free_in, leases_left}
use Rattle.kfs_desk.specs.Machine.{IsAnswered, IsDesk, IsShown, IsStep, AnswerMeans, Parts, shown, state_at, state_of}
use Rattle.kfs_desk.specs.Docket.{is_rejudged, position_of}
use Rattle.kfs_desk.proofs.Dockets.{desk_with}
use Rattle.kfs_desk.proofs.LandedBytes.{can_land_with, done_landed, fits_full, plan_filled, plan_whole, step_landed}

-- what an answer at this place in the docket comes to
pub record IsAnswer (s : State) (submission : Submission) (again : Bool) (place : ℕ) (answer : Reply) (t : State) : Type 0 where
  pub step : (row : Row) × IsStep s submission answer row t
  pub judged : is_rejudged answer ≡ again
  pub meaning : AnswerMeans s submission answer t
  pub position : position_of answer ≡ place

module _ (desk : Parts) (is_desk : IsDesk desk) (lawful : IsLawful desk.image) (submission : Submission) (again : Bool) where
  abbrev s : State
  s = state_of desk

  -- the state with this image and these leases
  abbrev at : DeviceImage → Leases → State
  at image leases = state_at image desk.clients leases

  -- the same of an equal answer, and of an equal image
  stays : (position : ℕ) (answer reply : Reply) (new : DeviceImage) → reply ≡ answer → new ≡ desk.image → IsAnswer s submission again position answer s → IsAnswer s submission again position reply (at new desk.leases)
  stays position answer reply new said same is =
      subst (λ r. IsAnswer s submission again position r (at new desk.leases)) (sym said)
      (subst (λ image. IsAnswer s submission again position answer (at image desk.leases)) (sym same) is)

  module _ {A : Type 0} where
    pub can_land : (outcome : Outcome A (List ℕ)) → IsVerdict s submission outcome → CanLand desk.image submission.log outcome
    can_land (outcomes.No fault) is = tt
    can_land (outcomes.Yes log plan net told) is = by is.verdict is.told
      where
        by : (verdict : Verdict) → TellsVerdict s submission (outcomes.Yes log plan net told) verdict → CanLandYes desk.image submission.log log plan net told
        by (Yes after marked_after) told_so = record {
          within = told_so.spelled.within;
          ascend = told_so.right.pieces.ascending;
          whole = plan_whole desk is_desk lawful submission log plan net told after marked_after told_so;
          filled = plan_filled desk is_desk lawful submission log plan net told after marked_after told_so;
          fits = λ room bytes are. can_land_with desk is_desk lawful submission log plan net told after marked_after told_so bytes are.entries are.pieces room;
        }
        by (No refusal) none = absurd none

    module _ (position : ℕ) where
      refused : (fault : Fault) → IsVerdict {A = A} s submission (outcomes.No fault) → IsAnswer s submission again position (replies.No position again fault) s
      unfolding outcome_of reply_to
      refused fault is = by is.verdict is.judgement is.told
        where
          by : (verdict : Verdict) → IsJudgement s submission verdict → TellsVerdict {A = A} s submission (outcomes.No fault) verdict → IsAnswer s submission again position (replies.No position again fault) s
          by (Yes after marked_after) judgement told = absurd told
          by (No refusal) judgement told = record {
            step = (
              record { call = Submit submission judgement.reading; answer = Replied (Refused refusal); rejudged = again; places = [] },
              record {
                reading = judgement.reading;
                read = judgement.read;
                asked = refl;
                reply = Refused refusal;
                said = ap (option_map Refused) told;
                answered = refl;
                rejudged = refl;
                least = refl;
                fits = row_fits s s _ (ap (λ verdict. replied s [] verdict (reply_to s verdict)) (sym judgement.judgement));
              },
            );
            judged = refl;
            meaning = refl;
            position = refl;
          }

      module _ (log : Log A (List ℕ)) (plan : Plan A (List ℕ)) (net : Net A (List ℕ)) (told : ℕ) (is : IsVerdict s submission (outcomes.Yes log plan net told)) where
        without_room : free_in desk.image < told → IsAnswer s submission again position (replies.NoRoom position again told (free_in desk.image)) s
        without_room full = by is.verdict is.judgement is.told
          where
            by : (verdict : Verdict) → IsJudgement s submission verdict → TellsVerdict s submission (outcomes.Yes log plan net told) verdict
                → IsAnswer s submission again position (replies.NoRoom position again told (free_in desk.image)) s
            by (Yes after marked_after) judgement told_so = record {
              step = (
                record { call = Submit submission judgement.reading; answer = Replied (NoRoom told (free_in desk.image)); rejudged = again; places = [] },
                record {
                  reading = judgement.reading;
                  read = judgement.read;
                  asked = refl;
                  reply = NoRoom told (free_in desk.image);
                  said = refl;
                  answered = refl;
                  rejudged = refl;
                  least = refl;
                  fits = fits_full desk is_desk lawful submission log plan net told after marked_after told_so full again judgement.reading judgement.judgement;
                },
              );
              judged = refl;
              meaning = refl;
              position = refl;
            }
            by (No refusal) judgement none = absurd none

        landed : told ≤ free_in desk.image → (new : DeviceImage) → HasLanded desk.image submission.log log plan net new
            → IsAnswer s submission again position (replies.Yes position again told) (at new (ended_by desk.leases net.nodes.items))
        landed room new has = by is.verdict is.judgement is.told
          where
            by : (verdict : Verdict) → IsJudgement s submission verdict → TellsVerdict s submission (outcomes.Yes log plan net told) verdict
                → IsAnswer s submission again position (replies.Yes position again told) (at new (ended_by desk.leases net.nodes.items))
            by (Yes after marked_after) judgement told_so = record {
              step = step_landed desk is_desk lawful submission log plan net told after marked_after told_so has.bytes has.are.entries has.are.pieces room new has.landed judgement position again;
              judged = refl;
              meaning = done_landed desk is_desk lawful submission log plan net told after marked_after told_so has.bytes has.are.entries has.are.pieces room new has.landed;
              position = refl;
            }
            by (No refusal) judgement none = absurd none

      answers : (outcome : Outcome A (List ℕ)) (reply : Reply) (new : DeviceImage) → IsVerdict s submission outcome → AnswersOutcome desk.image submission.log position again outcome reply new
          → IsAnswer s submission again position reply (at new (leases_left desk.leases outcome reply))
      answers (outcomes.No fault) reply new is told =
          let (said, same) = told in
          stays position (replies.No position again fault) reply new said same (refused fault is)
      answers (outcomes.Yes log plan net need) (replies.No place rejudged fault) new is told = absurd told
      answers (outcomes.Yes log plan net need) (replies.NoRoom place rejudged n free) new is told =
          let (said, full, same) = told in
          stays position (replies.NoRoom position again need (free_in desk.image)) (replies.NoRoom place rejudged n free) new said same (without_room log plan net need is full)
      answers (outcomes.Yes log plan net need) (replies.Yes place rejudged n) new is told =
          let (said, room, has) = told in
          subst (λ r. IsAnswer s submission again position r (at new (ended_by desk.leases net.nodes.items))) (sym said) (landed log plan net need is room new has)

      -- The answer is the machine's step, and says what it means.
      pub answered : (outcome : Outcome A (List ℕ)) (reply : Reply) (new : DeviceImage) (left : Leases) → IsVerdict s submission outcome → AnswersOutcome desk.image submission.log position again outcome reply new
          → left ≡ leases_left desk.leases outcome reply → IsAnswer s submission again position reply (at new left)
      answered outcome reply new left is told ended =
          subst (λ leases. IsAnswer s submission again position reply (at new leases)) (sym ended) (answers outcome reply new is told)

-- A step is a row that was read as it says.
pub step_read : (s : State) (submission : Submission) (answer : Reply) (row : Row) (t : State) → IsStep s submission answer row t → IsRead row
step_read s submission answer row t step = subst (λ (call : Call). IsRead (record row { call = call })) (sym step.asked) step.read

-- ---- with the row in the docket

-- what is said of states and a submission is said of equal ones
pub told_of : {before s after t : State} {said submission : Submission} → before ≡ s → said ≡ submission → after ≡ t → (P : State → Submission → State → Type 0) → P s submission t → P before said after
told_of {s = s} {after = after} {said = said} {submission = submission} at_first handed_in at_last P told =
    subst (λ (x : State). P x said after) (sym at_first) (subst (λ (u : Submission). P s u after) (sym handed_in) (subst (λ (y : State). P s submission y) (sym at_last) told))

module _ (desk new : Parts) (is_desk : IsDesk desk) (submission : Submission) (reply : Reply) (row : Row) (step : IsStep (state_of desk) submission reply row (state_of new)) (opened : new.opening ≡ desk.opening)
    (added : new.docket ≡ desk.docket ++ row ∷ []) (limited : new.limit ≡ desk.limit) where
  -- The desk stays one.
  pub answered_desk : IsShown (state_of new) → length desk.docket < desk.limit → IsDesk new
  answered_desk is room = desk_with desk new is_desk row (step_read (state_of desk) submission reply row (state_of new) step) step.fits step.least is opened added (let limit = limited in omega arith)

  -- The answer has its row in the docket.
  pub answered_at : (again : Bool) (position : ℕ) → position ≡ length desk.docket → IsAnswer (state_of desk) submission again position reply (state_of new) → IsAnswered (shown desk) submission again reply (shown new)
  answered_at again position last is = record {
    row = row;
    step = step;
    judged = is.judged;
    meaning = is.meaning;
    position = is.position ∙ last;
    docket = added;
    opening = opened;
    limit = limited;
  }
