-- The text of each answer.
use Rattle.std.specs.Prelude.{◌≡◌, ℕ, ◌≤◌, List, Vec, ◌++◌, Bool, codes, decimal, Result, Ok, Err, IsOk, OnOk, OnErr}
use Rattle.std.specs.declared.alloc.AllocError.{AllocError}
use Rattle.kfs_entry.specs.declared.fault.SpellFault.{SpellFault}
use Rattle.kfs_entry.specs.declared.fault.SpellFault.TheVariants as spell
use Rattle.kfs_types.specs.declared.entry.Header.{Header}
use Rattle.kfs_types.specs.declared.entry.Kind.{Kind}
use Rattle.kfs_types.specs.declared.entry.Kind.TheVariants.{File, Directory}
use Rattle.kfs_image.specs.declared.codec.fault.ImageFault.{ImageFault}
use Rattle.kfs_image.specs.declared.codec.fault.ImageFault.TheVariants as image
use Rattle.kfs_judge.specs.declared.check.check.Reason.{Reason}
use Rattle.kfs_judge.specs.declared.check.check.Reason.TheVariants as reason
use Rattle.kfs_lease.specs.declared.leases.LeaseFault.{LeaseFault}
use Rattle.kfs_lease.specs.declared.leases.LeaseFault.TheVariants as lease
use Rattle.kfs_types.specs.declared.moves.moves.MoveFault.{MoveFault}
use Rattle.kfs_types.specs.declared.moves.moves.MoveFault.TheVariants as move
use Rattle.kfs_mode.specs.declared.client.ClientFault.{ClientFault}
use Rattle.kfs_mode.specs.declared.client.ClientFault.TheVariants.{TooManyGroups, BadGrant}
use Rattle.kfs_plan.specs.declared.submission.Fault.{Fault}
use Rattle.kfs_plan.specs.declared.submission.Fault.TheVariants.{UnknownClient, BadLog, WrongClient, BadPlan, Entry, Row}
use Rattle.kfs_plan.specs.declared.rows.RowFault.{RowFault}
use Rattle.kfs_plan.specs.declared.rows.RowFault.TheVariants as row
use Rattle.kfs_desk.specs.declared.history.answers.ActFault.{ActFault}
use Rattle.kfs_desk.specs.declared.history.answers.ActFault.TheVariants as act_fault
use Rattle.kfs_desk.specs.declared.history.answers.ActReply.{ActReply}
use Rattle.kfs_desk.specs.declared.history.answers.BeginFault.{BeginFault}
use Rattle.kfs_desk.specs.declared.history.answers.BeginFault.TheVariants as begin
use Rattle.kfs_desk.specs.declared.history.answers.Done.{Done}
use Rattle.kfs_desk.specs.declared.history.answers.Done.TheVariants as done
use Rattle.kfs_desk.specs.declared.history.answers.Reply.{Reply}
use Rattle.kfs_desk.specs.declared.history.answers.Reply.TheVariants.{Yes, No, NoRoom}
use Rattle.kfs_program_text.specs.Parts.{field_text, flag_text, line_of, numbered_text, octal_text}
use Rattle.kfs_types.specs.Room.{spare_of}

-- ---- refusals by name

abbrev pub spell_text : SpellFault → List ℕ
spell_text spell.BadHeader = codes "BadHeader"
spell_text (spell.BadEntry entry) = numbered_text (codes "BadEntry") entry
spell_text spell.Trailing = codes "Trailing"
spell_text (spell.BadRow part row) = codes "BadRow(" ++ (decimal part ++ (codes "," ++ (decimal row ++ codes ")")))
spell_text spell.OutOfMemory = codes "OutOfMemory"

abbrev pub row_text : RowFault → List ℕ
row_text (row.Names i) = numbered_text (codes "Names") i
row_text (row.Nodes i) = numbered_text (codes "Nodes") i
row_text (row.Pieces i) = numbered_text (codes "Pieces") i
row_text row.OutOfMemory = codes "OutOfMemory"

abbrev pub reason_name : Reason → List ℕ
reason_name reason.NoSuchNode = codes "NoSuchNode"
reason_name reason.NotDirectory = codes "NotDirectory"
reason_name reason.IsDirectory = codes "IsDirectory"
reason_name reason.NoSuchName = codes "NoSuchName"
reason_name reason.NameTaken = codes "NameTaken"
reason_name reason.NumberTaken = codes "NumberTaken"
reason_name reason.NumberNotGranted = codes "NumberNotGranted"
reason_name reason.NotEmpty = codes "NotEmpty"
reason_name reason.BelowItself = codes "BelowItself"
reason_name reason.TooManyLinks = codes "TooManyLinks"
reason_name reason.TooBig = codes "TooBig"
reason_name reason.NoSearch = codes "NoSearch"
reason_name reason.NoWrite = codes "NoWrite"
reason_name reason.NotOwner = codes "NotOwner"
reason_name (reason.NoLease node) = codes "NoLease"
reason_name reason.Sticky = codes "Sticky"
reason_name reason.NotInGroup = codes "NotInGroup"

-- the reason's name, with its number if it has one
abbrev pub reason_text : Reason → List ℕ
reason_text (reason.NoLease node) = numbered_text (reason_name (reason.NoLease node)) node
reason_text other = reason_name other

abbrev pub lease_name : LeaseFault → List ℕ
lease_name lease.UnknownClient = codes "UnknownClient"
lease_name lease.BadPath = codes "BadPath"
lease_name (lease.NoSuchName i) = codes "NoSuchName"
lease_name (lease.NotDirectory i) = codes "NotDirectory"
lease_name (lease.NoSearch i) = codes "NoSearch"
lease_name lease.Past = codes "Past"
lease_name (lease.LeaseHeld client) = codes "LeaseHeld"
lease_name lease.NoLeaseHeld = codes "NoLeaseHeld"
lease_name lease.Backwards = codes "Backwards"
lease_name lease.NoSuchNode = codes "NoSuchNode"
lease_name lease.NotAllowed = codes "NotAllowed"
lease_name lease.OutOfMemory = codes "OutOfMemory"

-- the refusal's name, with its number if it has one
abbrev pub lease_text : LeaseFault → List ℕ
lease_text (lease.NoSuchName i) = numbered_text (lease_name (lease.NoSuchName i)) i
lease_text (lease.NotDirectory i) = numbered_text (lease_name (lease.NotDirectory i)) i
lease_text (lease.NoSearch i) = numbered_text (lease_name (lease.NoSearch i)) i
lease_text (lease.LeaseHeld client) = numbered_text (lease_name (lease.LeaseHeld client)) client
lease_text other = lease_name other

abbrev pub move_text : MoveFault → List ℕ
move_text (move.NotMapped i) = numbered_text (codes "NotMapped") i
move_text (move.OutOfRange i) = numbered_text (codes "OutOfRange") i
move_text (move.NotFree i) = numbered_text (codes "NotFree") i
move_text (move.Overlap i) = numbered_text (codes "Overlap") i
move_text move.TooManyMoves = codes "TooManyMoves"
move_text move.OutOfMemory = codes "OutOfMemory"

abbrev pub client_text : ClientFault → List ℕ
client_text TooManyGroups = codes "TooManyGroups"
client_text BadGrant = codes "BadGrant"

abbrev pub begin_text : BeginFault → List ℕ
begin_text (begin.ClientTwice i) = numbered_text (codes "ClientTwice") i
begin_text (begin.GrantOverlap i) = numbered_text (codes "GrantOverlap") i
begin_text begin.OutOfMemory = codes "OutOfMemory"

-- why bytes are no image
abbrev pub image_fault_text : ImageFault → List ℕ
image_fault_text image.BadImageHeader = codes "BadImageHeader"
image_fault_text (image.BadImageRow row) = numbered_text (codes "BadImageRow") row
image_fault_text image.ImageTrailing = codes "ImageTrailing"
image_fault_text image.OutOfMemory = codes "OutOfMemory"

abbrev pub fault_text : Fault → List ℕ
fault_text UnknownClient = codes "client unknown"
fault_text (BadLog fault) = codes "log " ++ spell_text fault
fault_text WrongClient = codes "client wrong"
fault_text (BadPlan fault) = codes "plan " ++ spell_text fault
fault_text (Entry fault) = codes "entry " ++ (decimal fault.index ++ (codes " " ++ reason_text fault.reason))
fault_text (Row fault) = codes "plan " ++ row_text fault

-- ---- lines, without their end

abbrev pub head_text : ℕ → List ℕ → Bool → List ℕ
head_text position word rejudged = decimal position ++ (word ++ flag_text rejudged)

abbrev pub reply_text : Reply → List ℕ
reply_text (Yes position rejudged need) = head_text position (codes " yes rejudged=") rejudged ++ (codes " need=" ++ decimal need)
reply_text (No position rejudged fault) = head_text position (codes " no rejudged=") rejudged ++ (codes " " ++ fault_text fault)
reply_text (NoRoom position rejudged need free) = head_text position (codes " noroom rejudged=") rejudged ++ (codes " need=" ++ (decimal need ++ (codes " free=" ++ decimal free)))

abbrev pub act_fault_text : ActFault → List ℕ
act_fault_text (act_fault.Lease fault) = lease_text fault
act_fault_text (act_fault.Move fault) = move_text fault

abbrev pub done_text : Done → List ℕ
done_text (done.Leased node) = codes " leased " ++ decimal node
done_text (done.Dropped node) = codes " dropped " ++ decimal node
done_text (done.Ticked moment) = codes " ticked " ++ decimal moment
done_text (done.Moved count) = codes " moved " ++ decimal count

abbrev pub act_answer_text : Result Done ActFault → List ℕ
act_answer_text (Ok did) = done_text did
act_answer_text (Err fault) = codes " refused " ++ act_fault_text fault

abbrev pub act_text : ActReply → List ℕ
act_text reply = decimal reply.position ++ act_answer_text reply.answer

abbrev pub kind_text : Kind → List ℕ
kind_text File = codes " file "
kind_text Directory = codes " dir "

abbrev pub counts_text : Header → List ℕ
counts_text header = field_text header.uid ++ (field_text header.gid ++ (field_text header.links ++ field_text header.size))

abbrev pub header_text : Header → List ℕ
header_text header = kind_text header.kind ++ (octal_text header.mode ++ counts_text header)

abbrev pub node_text : ℕ → Header → List ℕ
node_text node header = codes "node " ++ (decimal node ++ header_text header)

abbrev pub finding_text : (rule number : ℕ) → List ℕ
finding_text rule number = codes "finding" ++ (field_text rule ++ field_text number)

-- ---- lines

-- the line is appended; where memory runs out nothing is; memory isn't refused where 128 bytes are
-- spare
pub record AddsLine {Z : Type 0} (old new : Vec ℕ Z) (line : List ℕ) (result : Result Unit AllocError) : Type 0 where
  pub room : 128 ≤ spare_of old → IsOk result
  pub ok : OnOk result (new.items ≡ old.items ++ line_of line)
  pub err : OnErr result (new.items ≡ old.items)
