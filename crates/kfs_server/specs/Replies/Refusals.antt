-- Why a frame is refused whose body isn't kept, is no call, or has no log where it must have one.
use Rattle.kfs_call.specs.declared.fault.FieldFault.{FieldFault}
use Rattle.kfs_call.specs.declared.fault.FieldFault.TheVariants as fields
use Rattle.kfs_call.specs.declared.frame.BodyFault.{BodyFault}
use Rattle.kfs_call.specs.declared.frame.BodyFault.TheVariants as bodies
use Rattle.kfs_entry.specs.declared.fault.SpellFault.{SpellFault}
use Rattle.kfs_entry.specs.declared.fault.SpellFault.TheVariants as spellings
use Rattle.kfs_server.specs.declared.replies.reply.Refusal.{Refusal}
use Rattle.kfs_server.specs.declared.replies.reply.Refusal.TheVariants as refusals

abbrev pub refusal_for_body : BodyFault → Refusal
refusal_for_body bodies.TooLong = refusals.TooLong
refusal_for_body bodies.OutOfMemory = refusals.OutOfMemory

abbrev pub refusal_for_fields : FieldFault → Refusal
refusal_for_fields (fields.BadField k) = refusals.BadField k
refusal_for_fields fields.Trailing = refusals.Trailing
refusal_for_fields fields.OutOfMemory = refusals.OutOfMemory

abbrev pub refusal_for_log : SpellFault → Refusal
refusal_for_log spellings.BadHeader = refusals.BadField 0
refusal_for_log (spellings.BadEntry k) = refusals.BadField 0
refusal_for_log spellings.Trailing = refusals.BadField 0
refusal_for_log (spellings.BadRow part k) = refusals.BadField 0
refusal_for_log spellings.OutOfMemory = refusals.OutOfMemory
