-- Calls that a desk has made one after another are frames that the machine has served.
use Rattle.std.proofs.Common.{◌≡◌, inl, inr, ℕ, suc, List, [], ◌∷◌, ◌++◌, length, map, Result, Ok, Err, refl, sym, ap, subst, ◌∙◌}
use Rattle.std.specs.List.{AllByRecursion, AllZip}
use Rattle.std.specs.Prelude.{◌≤◌, IfOk}
use Rattle.std.specs.declared.vec.Vec.{Vec}
use Rattle.kfs_desk.specs.Machine.{Desk}
use Rattle.kfs_call.specs.Call.{Call, IsCall, CallAnswer, call_bytes}
use Rattle.kfs_call.specs.Layout as layouts
use Rattle.kfs_call.specs.Readers.{call_read}
use Rattle.kfs_call.proofs.CallLaws.{call_layout}
use Rattle.kfs_call.specs.declared.answer.AnswerRow.{AnswerRow}
use Rattle.kfs_call.specs.declared.fault.FieldFault.TheVariants as fields
use Rattle.kfs_call_desk.specs.Calls.{IsMade, IsRefusal}
use Rattle.kfs_call_desk.specs.declared.made.Called.{Called}
use Rattle.kfs_call_desk.specs.declared.made.CallFault.{CallFault}
use Rattle.kfs_call_desk.specs.declared.made.CallFault.TheVariants as faults
use Rattle.kfs_kept.specs.Calls.Making.{Runs}
use Rattle.kfs_server.specs.LookUps.LookUp.{IsNoLookUp}
use Rattle.kfs_server.proofs.LookUpsLemmas.Apart.{call_is_no_look_up}
use Rattle.kfs_call.specs.Asking.{IsDecided, IsDecidedFor, IsDecidedOfBody, owner}
use Rattle.kfs_server.specs.Asking.{Asks, HasNoLookUp, IsBad}
use Rattle.kfs_server.specs.Frames.Begun.{IsBody, IsFrameOf, body_limit}
use Rattle.kfs_server.specs.Frames.Frame.{Frame}
use Rattle.kfs_call.specs.declared.frame.Incoming.{Incoming}
use Rattle.kfs_server.specs.Replies.Refusals.{refusal_for_body, refusal_for_fields}
use Rattle.kfs_server.specs.Replies.Views.{refusal_shown, reply_shown}
use Rattle.kfs_server.specs.Serving.Group.{AreReplies, AreServed, IsReplied, IsReplyTo, call_in, calls_of, refused_for_memory}
use Rattle.kfs_server.specs.Serving.Machine.{IsRefusedFor, Replies}
use Rattle.kfs_call.specs.declared.asking.Decided.{Decided}
use Rattle.kfs_call.specs.declared.asking.Decision.{Decision}
use Rattle.kfs_call.specs.declared.asking.Decision.TheVariants.{Make, NotKept, NoCall, NotYours}
use Rattle.kfs_call.specs.declared.frame.BodyFault.{BodyFault}
use Rattle.kfs_call.specs.declared.frame.BodyFault.TheVariants as bodies
use Rattle.kfs_server.specs.declared.replies.reply.NumberedReply.{NumberedReply}
use Rattle.kfs_server.specs.declared.replies.reply.Refusal.{Refusal}
use Rattle.kfs_server.specs.declared.replies.reply.Refusal.TheVariants as refusals
use Rattle.kfs_server.specs.declared.replies.reply.Reply.{Reply}
use Rattle.kfs_server.specs.declared.replies.reply.Reply.TheVariants.{Answered, Refused}

abbrev read : Call × List ℕ → Result (Call × List ℕ) ℕ
read x = Ok x

ok_is : (x y : Call × List ℕ) → read x ≡ read y → x ≡ y
ok_is x y e = cc

-- bytes are those of one call
pub same_call : (a b : Call) → IsCall a → IsCall b → call_bytes a ≡ call_bytes b → a ≡ b
same_call a b fa fb e =
    let pair = ok_is (a, []) (b, []) (sym (call_layout.again a [] fa) ∙ ap (λ (bs : List ℕ). call_read (bs ++ [])) e ∙ call_layout.again b [] fb) in
    ap (λ (p : Call × List ℕ). p.0) pair

-- a call that has no answer is refused for the same reason
refused_right : (desk : Desk) (f : Frame) (bytes : List ℕ) (fault : CallFault) (refusal : Refusal) → bytes ≡ f.body → IsNoLookUp f.body → IsRefusal bytes desk fault → IsReplyTo (Err fault) (Refused refusal)
    → IsRefusedFor desk f (refusal_shown refusal)
refused_right desk f bytes (faults.BadCall (fields.BadField k)) refusal is none why said =
    subst (λ (r : Refusal). IsRefusedFor desk f (refusal_shown r)) (sym said) (inl (subst (λ (bs : List ℕ). CallAnswer bs (Err (layouts.BadField k))) is why, none))
refused_right desk f bytes (faults.BadCall fields.Trailing) refusal is none why said =
    subst (λ (r : Refusal). IsRefusedFor desk f (refusal_shown r)) (sym said) (inl (subst (λ (bs : List ℕ). CallAnswer bs (Err layouts.Trailing)) is why))
refused_right desk f bytes (faults.BadCall fields.OutOfMemory) refusal is none why said = absurd why
refused_right desk f bytes faults.OutOfMemory refusal is none why said = subst (λ (r : Refusal). IsRefusedFor desk f (refusal_shown r)) (sym said) (inl tt)
refused_right desk f bytes faults.DocketFull refusal is none why said = subst (λ (r : Refusal). IsRefusedFor desk f (refusal_shown r)) (sym said) (inr (inl (refl, why)))

never_answered : (fault : CallFault) (answer : AnswerRow) → IsReplyTo (Err fault) (Answered answer) → ⊥
never_answered (faults.BadCall (fields.BadField k)) answer said = said
never_answered (faults.BadCall fields.Trailing) answer said = said
never_answered (faults.BadCall fields.OutOfMemory) answer said = said
never_answered faults.OutOfMemory answer said = said
never_answered faults.DocketFull answer said = said

-- the frame's body is a call of its sender's own, to be made; or it is refused, for a reason that is right
abbrev pub IsDecidedAs : Frame → Decision → Type 0
IsDecidedAs f (Make bytes) = (bytes.now ≡ f.body) × (call : Call) × Asks f call × (owner call ≡ f.from)
IsDecidedAs f (NotKept fault) = IsBad f (refusal_shown (refusal_for_body fault))
IsDecidedAs f (NoCall fault) = IsBad f (refusal_shown (refusal_for_fields fault))
IsDecidedAs f NotYours = IsBad f (refusal_shown refusals.NotYours)

-- a frame that is refused, and the calls that are left
refused_step : (desk last : Desk) (f : Frame) (refusal : Refusal) (calls : List (List ℕ)) (answers others : List (Result Called CallFault)) (reply : Reply) → IsBad f (refusal_shown refusal)
    → Runs desk calls answers last → reply ≡ Refused refusal → others ≡ answers → (next : Desk) × Replies desk f (reply_shown reply) next × Runs next calls others last
refused_step desk last f refusal calls answers others reply bad runs said left =
    (desk, (subst (λ (r : Reply). Replies desk f (reply_shown r) desk) (sym said) (inl bad, refl)), subst (λ (rest : List (Result Called CallFault)). Runs desk calls rest last) (sym left) runs)

-- one frame more, and the calls that are left
pub serves_step : (desk last : Desk) (f : Frame) (what : Decision) (calls : List (List ℕ)) (answers others : List (Result Called CallFault)) (reply : Reply) → IsDecidedAs f what
    → Runs desk (call_in what ++ calls) answers last → IsReplied what answers others reply → (next : Desk) × Replies desk f (reply_shown reply) next × Runs next calls others last
serves_step desk last f (Make bytes) calls [] others reply decided runs said = absurd said
serves_step desk last f (Make bytes) calls (Ok called ∷ answers) others (Answered answer) decided runs said =
    let made = runs.1 in
    let asked : Call = decided.1 in
    let one : made.call ≡ asked = same_call made.call asked made.fits decided.2.fits (sym made.spelled ∙ decided.0 ∙ decided.2.spelled) in (
      runs.0,
      record { call = asked; asks = decided.2; yours = decided.3; called = called; made = subst (λ (call : Call). IsMade call desk called runs.0) one made.made; told = said.0 },
      subst (λ (rest : List (Result Called CallFault)). Runs runs.0 calls rest last) (sym said.1) runs.2,
    )
serves_step desk last f (Make bytes) calls (Ok called ∷ answers) others (Refused refusal) decided runs said = absurd said.0
serves_step desk last f (Make bytes) calls (Err fault ∷ answers) others (Answered answer) decided runs said = absurd (never_answered fault answer said.0)
serves_step desk last f (Make bytes) calls (Err fault ∷ answers) others (Refused refusal) decided runs said =
    (desk, (refused_right desk f bytes.now fault refusal decided.0 (subst IsNoLookUp (sym decided.2.spelled) (call_is_no_look_up decided.1)) runs.0 said.0, refl), subst (λ (rest : List (Result Called CallFault)). Runs desk calls rest last) (sym said.1) runs.1)
serves_step desk last f (NotKept fault) calls answers others reply decided runs said = refused_step desk last f (refusal_for_body fault) calls answers others reply decided runs said.0 said.1
serves_step desk last f (NoCall fault) calls answers others reply decided runs said = refused_step desk last f (refusal_for_fields fault) calls answers others reply decided runs said.0 said.1
serves_step desk last f NotYours calls answers others reply decided runs said = refused_step desk last f refusals.NotYours calls answers others reply decided runs said.0 said.1

-- what is decided of a frame, under its number
abbrev pub IsDecidedOf : Frame → Decided → Type 0
IsDecidedOf f one = (one.number ≡ f.number) × IsDecidedAs f one.what

pub serves_all : (desk last : Desk) (frames : List Frame) (decided : List Decided) (answers : List (Result Called CallFault)) (replies : List NumberedReply) → AllZip IsDecidedOf frames decided
    → Runs desk (calls_of decided) answers last → AreReplies decided answers replies → AreServed desk frames replies last
serves_all desk last [] [] [] [] are runs said = record { numbers = tt; served = runs }
serves_all desk last [] [] (answer ∷ answers) [] are runs said = absurd said
serves_all desk last [] [] answers (sent ∷ replies) are runs said = absurd said
serves_all desk last [] (one ∷ decided) answers replies are runs said = absurd are
serves_all desk last (f ∷ frames) [] answers replies are runs said = absurd are
serves_all desk last (f ∷ frames) (one ∷ decided) answers [] are runs said = absurd said
serves_all desk last (f ∷ frames) (one ∷ decided) answers (sent ∷ replies) are runs said =
    let step = serves_step desk last f one.what (calls_of decided) answers said.0 sent.reply are.0.1 runs said.2 in
    let rest = serves_all step.0 last frames decided said.0 replies are.1 step.2 said.3 in
    record { numbers = (said.1 ∙ are.0.0, rest.numbers); served = (step.0, step.1, rest.served) }

-- what is decided of a body that is kept is decided of its frame, where that asks for no look-up
decided_body : (f : Frame) (bytes : List ℕ) (what : Decision) → bytes ≡ f.body → length f.body ≤ body_limit → IsNoLookUp bytes → IsDecided f.from bytes what → IsDecidedAs f what
decided_body f bytes (Make body) is short none decided = (decided.0 ∙ is, decided.1, record { short = short; fits = decided.2.0; spelled = sym is ∙ decided.2.1 }, decided.3)
decided_body f bytes (NotKept fault) is short none decided = absurd decided
decided_body f bytes (NoCall (fields.BadField k)) is short none decided = (subst (λ (bs : List ℕ). CallAnswer bs (Err (layouts.BadField k))) is decided, subst IsNoLookUp is none)
decided_body f bytes (NoCall fields.Trailing) is short none decided = subst (λ (bs : List ℕ). CallAnswer bs (Err layouts.Trailing)) is decided
decided_body f bytes (NoCall fields.OutOfMemory) is short none decided = tt
decided_body f bytes NotYours is short none decided = (decided.0, record { short = short; fits = decided.1.0; spelled = sym is ∙ decided.1.1 }, decided.2)

decided_as : {A : Type 0} (f : Frame) (body : Result (Vec ℕ A) BodyFault) (what : Decision) → IsBody (length f.body) body f.body → IfOk body (λ bytes. IsNoLookUp bytes.items)
    → IsDecidedOfBody f.from body what → IsDecidedAs f what
decided_as f (Ok bytes) what is none decided = decided_body f bytes.items what is.0 is.1 none decided
decided_as f (Err bodies.TooLong) what is none decided = subst (IsDecidedAs f) (sym decided) is
decided_as f (Err bodies.OutOfMemory) what is none decided = subst (IsDecidedAs f) (sym decided) tt

-- what is decided of the code's frames is decided of the frames that they are
pub decided_of : {A : Type 0} (group : List (Incoming A)) (frames : List Frame) (decided : List Decided) → AllZip IsFrameOf group frames → AllByRecursion HasNoLookUp group → AllZip IsDecidedFor group decided
    → AllZip IsDecidedOf frames decided
decided_of [] [] [] are none is = tt
decided_of [] [] (one ∷ decided) are none is = absurd is
decided_of [] (f ∷ frames) decided are none is = absurd are
decided_of (x ∷ group) [] decided are none is = absurd are
decided_of (x ∷ group) (f ∷ frames) [] are none is = absurd is
decided_of (x ∷ group) (f ∷ frames) (one ∷ decided) are none is =
    let what = subst (λ (from : ℕ). IsDecidedOfBody from x.body one.what) are.0.from is.0.1 in
    ((is.0.0 ∙ are.0.number, decided_as f x.body one.what are.0.body none.0 what), decided_of group frames decided are.1 none.1 is.1)

-- there is an answer for each call
pub runs_long : (desk last : Desk) (calls : List (List ℕ)) (answers : List (Result Called CallFault)) → Runs desk calls answers last → length answers ≡ length calls
runs_long desk last [] [] runs = refl
runs_long desk last [] (answer ∷ answers) runs = absurd runs
runs_long desk last (bytes ∷ calls) [] runs = absurd runs
runs_long desk last (bytes ∷ calls) (Ok called ∷ answers) runs = ap suc (runs_long runs.0 last calls answers runs.2)
runs_long desk last (bytes ∷ calls) (Err fault ∷ answers) runs = ap suc (runs_long desk last calls answers runs.1)

-- frames that are all refused, since memory was
pub all_refused : {A : Type 0} (desk : Desk) (group : List (Incoming A)) (frames : List Frame) → AllZip IsFrameOf group frames → AreServed desk frames (map refused_for_memory group) desk
all_refused desk [] [] are = record { numbers = tt; served = refl }
all_refused desk [] (f ∷ frames) are = absurd are
all_refused desk (x ∷ group) [] are = absurd are
all_refused desk (x ∷ group) (f ∷ frames) are =
    let rest = all_refused desk group frames are.1 in
    record { numbers = (are.0.number, rest.numbers); served = (desk, (inl tt, refl), rest.served) }
