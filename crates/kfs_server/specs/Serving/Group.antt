-- A group: what is decided of its frames before a call is made, and the replies that follow.
use Rattle.std.specs.Prelude.{◌≡◌, ℕ, List, [], ◌∷◌, map, Result, Ok, Err}
use Rattle.std.specs.List.{AllZip, flat_map}
use Rattle.kfs_desk.specs.Machine.{Desk}
use Rattle.kfs_call.specs.AnswerViews.{answer_shown}
use Rattle.kfs_call_desk.specs.Told.{IsAnswer}
use Rattle.kfs_call_desk.specs.declared.made.Called.{Called}
use Rattle.kfs_call_desk.specs.declared.made.CallFault.{CallFault}
use Rattle.kfs_call_desk.specs.declared.made.CallFault.TheVariants as faults
use Rattle.kfs_server.specs.Frames.Frame.{Frame}
use Rattle.kfs_server.specs.Replies.Refusals.{refusal_for_body, refusal_for_fields}
use Rattle.kfs_server.specs.Replies.Views.{reply_shown}
use Rattle.kfs_server.specs.Serving.Machine.{Serves}
use Rattle.kfs_call.specs.declared.frame.Incoming.{Incoming}
use Rattle.kfs_call.specs.declared.asking.Decided.{Decided}
use Rattle.kfs_call.specs.declared.asking.Decision.{Decision}
use Rattle.kfs_call.specs.declared.asking.Decision.TheVariants as decisions
use Rattle.kfs_server.specs.declared.replies.reply.NumberedReply.{NumberedReply}
use Rattle.kfs_server.specs.declared.replies.reply.Refusal.TheVariants as refusals
use Rattle.kfs_server.specs.declared.replies.reply.Reply.{Reply}
use Rattle.kfs_server.specs.declared.replies.reply.Reply.TheVariants.{Answered, Refused}

-- the call to be made, where there is one
abbrev pub call_in : Decision → List (List ℕ)
call_in (decisions.Make bytes) = bytes.now ∷ []
call_in (decisions.NotKept fault) = []
call_in (decisions.NoCall fault) = []
call_in decisions.NotYours = []

-- the calls to be made, in order
abbrev pub calls_of : List Decided → List (List ℕ)
calls_of decided = flat_map (λ (one : Decided). call_in one.what) decided

-- the reply says what the call was answered, or why it has no answer
abbrev pub IsReplyTo : Result Called CallFault → Reply → Type 0
IsReplyTo (Ok called) (Answered answer) = IsAnswer called (answer_shown answer)
IsReplyTo (Ok called) (Refused refusal) = ⊥
IsReplyTo (Err fault) (Answered answer) = ⊥
IsReplyTo (Err (faults.BadCall fault)) (Refused refusal) = refusal ≡ refusal_for_fields fault
IsReplyTo (Err faults.OutOfMemory) (Refused refusal) = refusal ≡ refusals.OutOfMemory
IsReplyTo (Err faults.DocketFull) (Refused refusal) = refusal ≡ refusals.DocketFull

-- the reply to the call of the first of these answers, with the others behind it
abbrev pub IsFirstReplied : (answers others : List (Result Called CallFault)) → Reply → Type 0
IsFirstReplied [] others reply = ⊥
IsFirstReplied (answer ∷ answers) others reply = IsReplyTo answer reply × (others ≡ answers)

-- the reply to a decision, where the calls from there on have these answers, and those behind it have the others
abbrev pub IsReplied : Decision → (answers others : List (Result Called CallFault)) → Reply → Type 0
IsReplied (decisions.Make bytes) answers others reply = IsFirstReplied answers others reply
IsReplied (decisions.NotKept fault) answers others reply = (reply ≡ Refused (refusal_for_body fault)) × (others ≡ answers)
IsReplied (decisions.NoCall fault) answers others reply = (reply ≡ Refused (refusal_for_fields fault)) × (others ≡ answers)
IsReplied decisions.NotYours answers others reply = (reply ≡ Refused refusals.NotYours) × (others ≡ answers)

-- the replies to decisions, given the answers to their calls
abbrev pub AreReplies : List Decided → List (Result Called CallFault) → List NumberedReply → Type 0
AreReplies [] [] [] = Unit {0}
AreReplies [] (answer ∷ answers) [] = ⊥
AreReplies [] answers (sent ∷ replies) = ⊥
AreReplies (one ∷ decided) answers [] = ⊥
AreReplies (one ∷ decided) answers (sent ∷ replies) =
    (others : List (Result Called CallFault)) × (sent.number ≡ one.number) × IsReplied one.what answers others sent.reply × AreReplies decided others replies

-- the frame is refused, since memory was
abbrev pub refused_for_memory : {A : Type 0} → Incoming A → NumberedReply
refused_for_memory incoming = record { number = incoming.number; reply = Refused refusals.OutOfMemory }

-- each frame has its reply, under its number, as the machine may give it
pub record AreServed (old : Desk) (frames : List Frame) (replies : List NumberedReply) (new : Desk) : Type 0 where
  pub numbers : AllZip (λ (f : Frame) (sent : NumberedReply). sent.number ≡ f.number) frames replies
  pub served : Serves old frames (map (λ (sent : NumberedReply). reply_shown sent.reply) replies) new
