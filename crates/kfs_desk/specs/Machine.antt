-- The desk as a state of the machine, and its calls as rows that fit it.
use Rattle.std.specs.Prelude.{◌≡◌, ◌≢◌, ◌↔◌, ℕ, ◌≤◌, Bool, false, List, [], ◌∷◌, ◌++◌, length, take, Option, Some, None, option_map, Result, Ok, Err, IfOk, IsErrOf, OnErr}
use Rattle.kfs_model.specs.Access.{Client}
use Rattle.kfs_model.specs.Lease.{Leases, row_of}
use Rattle.kfs_model.specs.Lease as leases
use Rattle.kfs_model.specs.Sight.{Sight, sight}
use Rattle.kfs_model.specs.Soundness.{IsSound}
use Rattle.kfs_model.specs.Judgement.{State, Submission, Reading, IsReadAs, Reply, Accepted, NoRoom, Refused, client_sight_of}
use Rattle.kfs_model.specs.Machine.{Call, Submit, Lease, Drop, Tick, LeaseAt, CallAnswer, CallFault, IsRead, Replied, Row, after, next}
use Rattle.kfs_model.specs.Machine as machine
use Rattle.kfs_model.specs.Means.{HasEntriesDone}
use Rattle.kfs_model.specs.Migration.{Move, MoveFault, fault_of_moves}
use Rattle.kfs_model.specs.Order.{IsInOrder}
use Rattle.kfs_desk.specs.History.Least.{AreLeast}
use Rattle.kfs_desk.specs.History.Legal.{IsLegalDocket}
use Rattle.kfs_lease.specs.Faults as lease_faults
use Rattle.kfs_lease.specs.LeaseLists.{HasLawfulLeases}
use Rattle.kfs_migrate.specs.Applied.{AreApplied}
use Rattle.kfs_types.specs.Moves.Faults as move_faults
use Rattle.kfs_lease.specs.Rows.Rows.{kind_of}
use Rattle.kfs_desk.specs.declared.history.answers.ActFault.{ActFault}
use Rattle.kfs_desk.specs.declared.history.answers.ActFault.TheVariants as act_faults
use Rattle.kfs_model.specs.Device.ShownTree.{DeviceImage, IsLawful, shown_tree}
use Rattle.kfs_plan.specs.Judging.{refusal_of, submission_of}
use Rattle.kfs_plan.specs.declared.submission.Back.{Back}
use Rattle.kfs_plan.specs.declared.submission.Submission.{Submission as CodeSubmission}
use Rattle.kfs_plan.specs.declared.submission.Why.{Why}
use Rattle.kfs_plan.specs.declared.submission.Why.TheVariants as whys
use Rattle.kfs_lease.specs.declared.act.Act.{Act}
use Rattle.kfs_desk.specs.declared.history.answers.ActReply.{ActReply}
use Rattle.kfs_desk.specs.declared.history.answers.Unanswered.{Unanswered}
use Rattle.kfs_desk.specs.declared.history.answers.Unanswered.TheVariants as unanswered
use Rattle.kfs_lease.specs.declared.act.Act.TheVariants as acts
use Rattle.kfs_desk.specs.declared.history.answers.Done.{Done}
use Rattle.kfs_desk.specs.declared.history.answers.Done.TheVariants as dones
use Rattle.kfs_desk.specs.declared.history.answers.Reply.{Reply as CodeReply}
use Rattle.kfs_desk.specs.declared.history.answers.Reply.TheVariants as replies
use Rattle.kfs_judge.specs.Views.{View, clients_of, contents_of, leases_of, Agrees}
use Rattle.kfs_image_nodes.specs.Contents.{sight_of}
use Rattle.kfs_plan.specs.Judged.{Judged}
use Rattle.kfs_desk.specs.Docket.{position_of, is_rejudged}

-- what contracts see of a desk: the opening state, the docket, the state now, and the docket's limit
pub record Desk : Type 0 where
  pub opening : State
  pub docket : List Row
  pub state : State
  pub limit : ℕ

-- the parts of a desk
pub record Parts : Type 0 where
  pub image : DeviceImage
  pub clients : List Client
  pub leases : Leases
  pub opening : State
  pub docket : List Row
  pub limit : ℕ

-- the state that an image shows, with these clients and leases
abbrev pub state_at : DeviceImage → List Client → Leases → State
state_at image clients held = record { clients = clients; sizes = image.sizes; tree = shown_tree image; leases = held; placement = image.placement }

abbrev pub state_of : Parts → State
state_of desk = state_at desk.image desk.clients desk.leases

abbrev pub shown : Parts → Desk
shown desk = record { opening = desk.opening; docket = desk.docket; state = state_of desk; limit = desk.limit }

-- the image shows the state's tree, has its tiers, and has its blocks at the same places
pub record IsImageOf (image : DeviceImage) (s : State) : Type 0 where
  pub tree : shown_tree image ≡ s.tree
  pub sizes : image.sizes ≡ s.sizes
  pub placement : image.placement ≡ s.placement

-- a well formed image shows the state
pub record IsShown (s : State) : Type 0 where
  pub image : DeviceImage
  pub lawful : IsLawful image
  pub is : IsImageOf image s

-- a well formed image shows each state on the way from the opening through the docket
abbrev pub AreShown : (opening : State) → (docket : List Row) → Type 0
AreShown opening docket = (count : ℕ) (s : State) → after opening (take count docket) ≡ Some s → IsShown s

-- the docket is within its limit and leads to the state now, which is in order; each lease is of a known
-- client, on a node, and in force; a well formed image shows each state on the way
pub record IsDesk (desk : Parts) : Type 0 where
  pub within_limit : length desk.docket ≤ desk.limit
  pub legal : IsLegalDocket desk.opening desk.docket (state_of desk)
  pub in_order : IsInOrder (state_of desk)
  pub lawful : HasLawfulLeases (state_of desk)
  pub shown : AreShown desk.opening desk.docket

-- a desk that was just begun with this state
abbrev pub opened_at : State → (limit : ℕ) → Desk
opened_at s limit = record { opening = s; docket = []; state = s; limit = limit }

-- the view shows the state's tree, its leases and its clients
pub record IsViewOf {A : Type 0} (view : View A) (s : State) : Type 0 where
  pub sight : sight_of (contents_of view) ≡ sight s.tree
  pub leases : leases_of view ≡ s.leases
  pub clients : clients_of view ≡ s.clients

-- ---- a submission

-- the verdict holds in the state: the state has its client, and answers each read as recorded
pub record IsCurrent {A : Type 0} (s : State) (judged : Judged A) : Type 0 where
  pub row : row_of s.clients judged.submission.client ≡ judged.client
  pub agrees : Agrees judged.reads (client_sight_of s judged.submission.client)

-- the machine's reply for an answer of the code; none where the fault is that memory ran out
abbrev pub reply_of : CodeReply → Option Reply
reply_of (replies.Yes position rejudged need) = Some (Accepted need)
reply_of (replies.No position rejudged fault) = option_map Refused (refusal_of fault)
reply_of (replies.NoRoom position rejudged need free) = Some (NoRoom need free)

-- the row is the submission with this answer, told as judged again or not, and leads from state s to
-- state t; it takes the least free places
pub record IsStep (s : State) (submission : Submission) (answer : CodeReply) (row : Row) (t : State) : Type 0 where
  pub reading : Reading
  pub read : IsReadAs submission reading
  pub asked : row.call ≡ Submit submission reading
  pub reply : Reply
  pub said : reply_of answer ≡ Some reply
  pub answered : row.answer ≡ Replied reply
  pub rejudged : row.rejudged ≡ is_rejudged answer
  pub fits : next s row ≡ Some t
  pub least : AreLeast s row.places

-- the new tree results from the log's entries in turn, each one allowed, and is sound
pub record IsDone (s : State) (submission : Submission) (t : State) : Type 0 where
  pub done : HasEntriesDone s submission t
  pub sound : IsSound t.tree

-- a Yes has applied the log's entries; any other answer leaves the state as it was
abbrev pub AnswerMeans : (s : State) → Submission → CodeReply → (t : State) → Type 0
AnswerMeans s submission (replies.Yes position rejudged need) t = IsDone s submission t
AnswerMeans s submission (replies.No position rejudged fault) t = t ≡ s
AnswerMeans s submission (replies.NoRoom position rejudged need free) t = t ≡ s

-- the answer is such a step and means what it says; it says whether the submission was revalidated;
-- the docket has the step's row, at the answer's position
pub record IsAnswered (old : Desk) (submission : Submission) (again : Bool) (answer : CodeReply) (new : Desk) : Type 0 where
  pub row : Row
  pub step : IsStep old.state submission answer row new.state
  pub judged : is_rejudged answer ≡ again
  pub meaning : AnswerMeans old.state submission answer new.state
  pub position : position_of answer ≡ length old.docket
  pub docket : new.docket ≡ old.docket ++ row ∷ []
  pub opening : new.opening ≡ old.opening
  pub limit : new.limit ≡ old.limit

-- the reason why there is no answer is right: the docket is full, or it isn't and memory ran out
abbrev pub IsWhy : Desk → Why → Type 0
IsWhy desk whys.DocketFull = length desk.docket ≡ desk.limit
IsWhy desk whys.OutOfMemory = length desk.docket ≢ desk.limit

-- the submission came back for this reason
abbrev pub IsBackFor : {A T : Type 0} → Result T (Back A) → Why → Type 0
IsBackFor (Ok answer) why = ⊥
IsBackFor (Err back) why = back.why ≡ why

-- submissions one after another: each is answered at the desk that the earlier ones left, or comes back
-- with a reason and leaves that desk as it was
abbrev pub RunsThrough : {A : Type 0} → Desk → List (CodeSubmission A) → List (Result CodeReply (Back A)) → Desk → Type 0
RunsThrough desk [] [] last = last ≡ desk
RunsThrough desk [] (answer ∷ answers) last = ⊥
RunsThrough desk (submission ∷ submissions) [] last = ⊥
RunsThrough desk (submission ∷ submissions) (Ok reply ∷ answers) last = (next : Desk) × IsAnswered desk (submission_of submission) false reply next × RunsThrough next submissions answers last
RunsThrough desk (submission ∷ submissions) (Err back ∷ answers) last = (back.submission ≡ submission) × IsWhy desk back.why × RunsThrough desk submissions answers last

-- ---- a call that is no submission

-- the machine's call for a call of the code
abbrev pub call_of : Act → Call
call_of (acts.Lease client path kind end) = Lease client path.now (kind_of kind) end
call_of (acts.Drop client number) = Drop client number
call_of (acts.LeaseAt client number kind end) = LeaseAt client number (kind_of kind) end
call_of (acts.Tick moment) = Tick moment

-- what the call for leases has done, given the node's number or the moment
abbrev pub done_by : Act → ℕ → Done
done_by (acts.Lease client path kind end) = dones.Leased
done_by (acts.Drop client number) = dones.Dropped
done_by (acts.LeaseAt client number kind end) = dones.Leased
done_by (acts.Tick moment) = dones.Ticked

-- the node's number, the moment, or how many blocks moved
abbrev pub number_of : Done → ℕ
number_of (dones.Leased number) = number
number_of (dones.Dropped number) = number
number_of (dones.Ticked moment) = moment
number_of (dones.Moved count) = count

-- the answer of the call for leases, and the leases after it
abbrev pub outcome_at : Leases → Sight → List Client → Act → leases.LeaseOutcome
outcome_at table sight clients (acts.Lease client path kind end) = leases.granted table sight clients client path.now (kind_of kind) end
outcome_at table sight clients (acts.Drop client number) = leases.dropped table clients client number
outcome_at table sight clients (acts.LeaseAt client number kind end) = leases.granted_by_number table sight clients client number (kind_of kind) end
outcome_at table sight clients (acts.Tick moment) = leases.ticked table moment

-- the machine's refusal; none where memory ran out
abbrev pub call_fault_of : ActFault → Option CallFault
call_fault_of (act_faults.Lease fault) = option_map machine.LeaseRefused (lease_faults.fault_of fault)
call_fault_of (act_faults.Move fault) = option_map machine.MovesRefused (move_faults.fault_of fault)

-- the code's answer says what the machine's answer says: what was done, in these words, or the refusal
abbrev pub IsTold : (words : ℕ → Done) → Result Done ActFault → Result ℕ CallFault → Type 0
IsTold words (Ok done) (Ok number) = done ≡ words number
IsTold words (Ok done) (Err refusal) = ⊥
IsTold words (Err fault) (Ok number) = ⊥
IsTold words (Err fault) (Err refusal) = call_fault_of fault ≡ Some refusal

abbrev pub row_answer : Result ℕ CallFault → CallAnswer
row_answer (Ok number) = machine.Done number
row_answer (Err fault) = machine.NotDone fault

-- the answer says what was done, in these words; the row is the call with that outcome, with nothing
-- judged again, and leads from state s to state t
pub record IsCallStep (s : State) (call : Call) (words : ℕ → Done) (answer : Result Done ActFault) (row : Row) (t : State) : Type 0 where
  pub outcome : Result ℕ CallFault
  pub said : IsTold words answer outcome
  pub asked : row.call ≡ call
  pub read : IsRead row
  pub answered : row.answer ≡ row_answer outcome
  pub rejudged : row.rejudged ≡ false
  pub fits : next s row ≡ Some t
  pub least : AreLeast s row.places

-- the answer to the call is such a step, and the docket has the step's row, at the answer's position
pub record IsActed (old : Desk) (call : Call) (words : ℕ → Done) (reply : ActReply) (new : Desk) : Type 0 where
  pub row : Row
  pub step : IsCallStep old.state call words reply.answer row new.state
  pub position : reply.position ≡ length old.docket
  pub docket : new.docket ≡ old.docket ++ row ∷ []
  pub opening : new.opening ≡ old.opening
  pub limit : new.limit ≡ old.limit

-- the call is answered by such a step, or the desk stays as it was; it isn't answered for want of a row
-- exactly where the docket is full; the docket is legal either way
pub record IsCallOf (old : Desk) (call : Call) (words : ℕ → Done) (result : Result ActReply Unanswered) (new : Desk) : Type 0 where
  pub full : IsErrOf result unanswered.DocketFull ↔ (length old.docket ≡ old.limit)
  pub done : IfOk result (λ reply. IsActed old call words reply new)
  pub err : OnErr result (new ≡ old)
  pub legal : IsLegalDocket new.opening new.docket new.state

-- ---- a change by such a call

-- the answer of a call for leases, as that of any call
abbrev pub told_by_leases : Result ℕ leases.LeaseFault → Result ℕ CallFault
told_by_leases (Ok number) = Ok number
told_by_leases (Err fault) = Err (machine.LeaseRefused fault)

-- the answer, and the leases after it, are this outcome
pub record IsChange (outcome : leases.LeaseOutcome) (words : ℕ → Done) (answer : Result Done ActFault) (new : Leases) : Type 0 where
  pub told : Result ℕ leases.LeaseFault
  pub said : IsTold words answer (told_by_leases told)
  pub is : outcome ≡ (told, new)

-- the answer and the new leases are what the call leads to
abbrev pub IsChangeOf : Leases → Sight → List Client → Act → (answer : Result Done ActFault) → (new : Leases) → Type 0
IsChangeOf table sight clients act answer new = IsChange (outcome_at table sight clients act) (done_by act) answer new

-- each client has the same row at both, and sees the same: all that a judgement reads
abbrev pub SeeTheSame : (s t : State) → Type 0
SeeTheSame s t = (number : ℕ) → (row_of t.clients number ≡ row_of s.clients number) × (client_sight_of t number ≡ client_sight_of s number)

-- the moves have no fault, and the image has them made and shows the same tree; or their fault is
-- answered, and the image is as it was
abbrev pub IsMigrated : (old : DeviceImage) → List Move → (answer : Result Done ActFault) → (new : DeviceImage) → Type 0
IsMigrated old moves (Ok done) new = (done ≡ dones.Moved (length moves)) × (fault_of_moves old.sizes old.placement moves ≡ None) × AreApplied moves old new × (shown_tree new ≡ shown_tree old)
IsMigrated old moves (Err fault) new = (refusal : MoveFault) × (call_fault_of fault ≡ Some (machine.MovesRefused refusal)) × (fault_of_moves old.sizes old.placement moves ≡ Some refusal) × (new ≡ old)
