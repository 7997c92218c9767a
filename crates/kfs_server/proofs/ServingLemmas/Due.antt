-- Whatever calls were made, the machine has replies for their frames.
use Rattle.std.proofs.Common.{◌≡◌, inl, inr, ℕ, List, [], ◌∷◌, ◌++◌, Option, Some, None, Result, Ok, Err, IfSome, refl, sym, subst, ◌∙◌}
use Rattle.std.specs.List.{AllZip}
use Rattle.kfs_desk.specs.Machine.{Desk, call_fault_of, reply_of}
use Rattle.kfs_desk.specs.declared.history.answers.ActFault.{ActFault}
use Rattle.kfs_desk.specs.declared.history.answers.Done.{Done}
use Rattle.kfs_call.specs.AnswerRow as rows
use Rattle.kfs_call.specs.Call.{Call, CallAnswer}
use Rattle.kfs_call.specs.Layout as layouts
use Rattle.kfs_call.specs.declared.fault.FieldFault.TheVariants as fields
use Rattle.kfs_call_desk.specs.Calls.{IsMade, IsRefusal}
use Rattle.kfs_call_desk.specs.Told.{IsActTold, IsAnswer, IsTold, docket_row, done_shown, refusal_told, reply_told}
use Rattle.kfs_call_desk.specs.declared.made.Called.{Called}
use Rattle.kfs_call_desk.specs.declared.made.Called.TheVariants.{Submitted, Acted}
use Rattle.kfs_call_desk.specs.declared.made.CallFault.{CallFault}
use Rattle.kfs_call_desk.specs.declared.made.CallFault.TheVariants as faults
use Rattle.kfs_kept.specs.Calls.Making.{Runs}
use Rattle.kfs_server.specs.Asking.{IsBad}
use Rattle.kfs_server.specs.Frames.Frame.{Frame}
use Rattle.kfs_server.specs.Replies.Refusals.{refusal_for_body, refusal_for_fields}
use Rattle.kfs_server.specs.Replies.Reply as spelled
use Rattle.kfs_server.specs.Replies.Reply.{Refusal, BadField, Trailing, OutOfMemory, DocketFull, Reply, Answered, Refused}
use Rattle.kfs_server.specs.Replies.Views.{refusal_shown}
use Rattle.kfs_server.specs.Serving.Group.{call_in, calls_of}
use Rattle.kfs_server.specs.LookUps.LookUp.{IsNoLookUp}
use Rattle.kfs_server.proofs.LookUpsLemmas.Apart.{call_is_no_look_up}
use Rattle.kfs_server.specs.Serving.Machine.{IsRefusedFor, Replies, Serves}
use Rattle.kfs_server.proofs.ServingLemmas.Runs.{IsDecidedAs, IsDecidedOf, same_call}
use Rattle.kfs_call.specs.declared.asking.Decided.{Decided}
use Rattle.kfs_call.specs.declared.asking.Decision.{Decision}
use Rattle.kfs_call.specs.declared.asking.Decision.TheVariants.{Make, NotKept, NoCall, NotYours}

-- ---- what an answer says

module _ {R : Type 0} (f : R → rows.Told) where
  abbrev told_of_option : Option R → rows.Told
  told_of_option None = rows.Moved 0
  told_of_option (Some x) = f x

  option_told : (o : Option R) → IfSome o (λ x. told_of_option o ≡ f x)
  option_told None = tt
  option_told (Some x) = refl

abbrev act_due : Result Done ActFault → rows.Told
act_due (Ok done) = done_shown done
act_due (Err fault) = told_of_option refusal_told (call_fault_of fault)

act_right : (answer : Result Done ActFault) → IsActTold answer (act_due answer)
act_right (Ok done) = refl
act_right (Err fault) = option_told refusal_told (call_fault_of fault)

abbrev told_due : Called → rows.Told
told_due (Submitted reply) = told_of_option reply_told (reply_of reply)
told_due (Acted reply) = act_due reply.answer

told_right : (called : Called) → IsTold called (told_due called)
told_right (Submitted reply) = λ once. option_told reply_told (reply_of reply)
told_right (Acted reply) = act_right reply.answer

abbrev row_due : Called → rows.AnswerRow
row_due called = record { position = docket_row called; told = told_due called }

row_right : (called : Called) → IsAnswer called (row_due called)
row_right called = (refl, told_right called)

-- ---- why there is none

abbrev refusal_due : CallFault → Refusal
refusal_due (faults.BadCall (fields.BadField k)) = BadField k
refusal_due (faults.BadCall fields.Trailing) = Trailing
refusal_due (faults.BadCall fields.OutOfMemory) = OutOfMemory
refusal_due faults.OutOfMemory = OutOfMemory
refusal_due faults.DocketFull = DocketFull

refusal_right : (desk : Desk) (f : Frame) (bytes : List ℕ) (fault : CallFault) → bytes ≡ f.body → IsNoLookUp f.body → IsRefusal bytes desk fault → IsRefusedFor desk f (refusal_due fault)
refusal_right desk f bytes (faults.BadCall (fields.BadField k)) is none why = inl (subst (λ (bs : List ℕ). CallAnswer bs (Err (layouts.BadField k))) is why, none)
refusal_right desk f bytes (faults.BadCall fields.Trailing) is none why = inl (subst (λ (bs : List ℕ). CallAnswer bs (Err layouts.Trailing)) is why)
refusal_right desk f bytes (faults.BadCall fields.OutOfMemory) is none why = absurd why
refusal_right desk f bytes faults.OutOfMemory is none why = inl tt
refusal_right desk f bytes faults.DocketFull is none why = inr (inl (refl, why))

-- ---- frames

-- the machine replies to a frame, and the calls that are left run on
pub record IsStepDue (desk last : Desk) (f : Frame) (calls : List (List ℕ)) : Type 0 where
  pub next : Desk
  pub reply : Reply
  pub others : List (Result Called CallFault)
  pub replied : Replies desk f reply next
  pub runs : Runs next calls others last

-- a frame that is refused
refused_due : (desk last : Desk) (f : Frame) (refusal : Refusal) (calls : List (List ℕ)) (answers : List (Result Called CallFault)) → IsBad f refusal → Runs desk calls answers last → IsStepDue desk last f calls
refused_due desk last f refusal calls answers bad runs = record { next = desk; reply = Refused refusal; others = answers; replied = (inl bad, refl); runs = runs }

step_due : (desk last : Desk) (f : Frame) (what : Decision) (calls : List (List ℕ)) (answers : List (Result Called CallFault)) → IsDecidedAs f what → Runs desk (call_in what ++ calls) answers last
    → IsStepDue desk last f calls
step_due desk last f (Make bytes) calls [] decided runs = absurd runs
step_due desk last f (Make bytes) calls (Ok called ∷ answers) decided runs =
    let made = runs.1 in
    let asked : Call = decided.1 in
    let one : made.call ≡ asked = same_call made.call asked made.fits decided.2.fits (sym made.spelled ∙ decided.0 ∙ decided.2.spelled) in record {
      next = runs.0;
      reply = Answered (row_due called);
      others = answers;
      replied = record { call = asked; asks = decided.2; yours = decided.3; called = called; made = subst (λ (call : Call). IsMade call desk called runs.0) one made.made; told = row_right called };
      runs = runs.2;
    }
step_due desk last f (Make bytes) calls (Err fault ∷ answers) decided runs =
    record { next = desk; reply = Refused (refusal_due fault); others = answers; replied = (refusal_right desk f bytes.now fault decided.0 (subst IsNoLookUp (sym decided.2.spelled) (call_is_no_look_up decided.1)) runs.0, refl); runs = runs.1 }
step_due desk last f (NotKept fault) calls answers decided runs = refused_due desk last f (refusal_shown (refusal_for_body fault)) calls answers decided runs
step_due desk last f (NoCall fault) calls answers decided runs = refused_due desk last f (refusal_shown (refusal_for_fields fault)) calls answers decided runs
step_due desk last f NotYours calls answers decided runs = refused_due desk last f spelled.NotYours calls answers decided runs

pub record IsDue (desk last : Desk) (frames : List Frame) : Type 0 where
  pub replies : List Reply
  pub served : Serves desk frames replies last

pub replies_due : (desk last : Desk) (frames : List Frame) (decided : List Decided) (answers : List (Result Called CallFault)) → AllZip IsDecidedOf frames decided → Runs desk (calls_of decided) answers last
    → IsDue desk last frames
replies_due desk last [] [] [] are runs = record { replies = []; served = runs }
replies_due desk last [] [] (answer ∷ answers) are runs = absurd runs
replies_due desk last [] (one ∷ decided) answers are runs = absurd are
replies_due desk last (f ∷ frames) [] answers are runs = absurd are
replies_due desk last (f ∷ frames) (one ∷ decided) answers are runs =
    let step = step_due desk last f one.what (calls_of decided) answers are.0.1 runs in
    let rest = replies_due step.next last frames decided step.others are.1 step.runs in
    record { replies = step.reply ∷ rest.replies; served = (step.next, step.replied, rest.served) }
