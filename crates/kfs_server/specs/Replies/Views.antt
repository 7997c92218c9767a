-- The code's replies, as the definitions have them.
use Rattle.std.specs.Prelude.{ℕ, List}
use Rattle.kfs_call.specs.AnswerViews.{answer_shown}
use Rattle.kfs_server.specs.Replies.Reply as spelled
use Rattle.kfs_server.specs.declared.replies.reply.Refusal.{Refusal}
use Rattle.kfs_server.specs.declared.replies.reply.Refusal.TheVariants as refusals
use Rattle.kfs_server.specs.declared.replies.reply.NumberedReply.{NumberedReply}
use Rattle.kfs_server.specs.declared.replies.reply.Reply.{Reply}
use Rattle.kfs_server.specs.declared.replies.reply.Reply.TheVariants as replies

abbrev pub refusal_shown : Refusal → spelled.Refusal
refusal_shown refusals.TooLong = spelled.TooLong
refusal_shown refusals.CutShort = spelled.CutShort
refusal_shown (refusals.BadField k) = spelled.BadField k
refusal_shown refusals.Trailing = spelled.Trailing
refusal_shown refusals.NotYours = spelled.NotYours
refusal_shown refusals.OutOfMemory = spelled.OutOfMemory
refusal_shown refusals.DocketFull = spelled.DocketFull

abbrev pub reply_shown : Reply → spelled.Reply
reply_shown (replies.Answered answer) = spelled.Answered (answer_shown answer)
reply_shown (replies.Refused refusal) = spelled.Refused (refusal_shown refusal)

-- the reply's bytes under its number
abbrev pub numbered_bytes : NumberedReply → List ℕ
numbered_bytes sent = spelled.reply_bytes sent.number (reply_shown sent.reply)
