-- What a row of the docket means for the state.
use Rattle.std.specs.Prelude.{◌≡◌, List, [], Some, Ok}
use Rattle.kfs_model.specs.Access.{Client}
use Rattle.kfs_model.specs.Entry.{Entry, Log}
use Rattle.kfs_model.specs.Judgement.{State, Submission, Reply, Accepted, NoRoom, Refused, client_sight_of}
use Rattle.kfs_model.specs.Lease.{Leases, row_of}
use Rattle.kfs_model.specs.Machine.{Call, Submit, Lease, Drop, Tick, Migrate, LeaseAt, CallAnswer, Replied, Done, NotDone, OneByOne, Row}
use Rattle.kfs_model.specs.Placement.{Placement}
use Rattle.kfs_model.specs.Spelling.{LogAnswer}

-- the submission encodes a log of a known client, and P holds of that client and of the log's entries
pub record OfItsLog (s : State) (submission : Submission) (P : Client → List Entry → Type 0) : Type 0 where
  pub client : Client
  pub row : row_of s.clients submission.client ≡ Some client
  pub log : Log
  pub spelled : LogAnswer submission.log (Ok log)
  pub holds : P client log.entries

-- the tree results from the log's entries in turn, each one allowed to the client
abbrev pub HasEntriesDone : (s : State) → Submission → (t : State) → Type 0
HasEntriesDone s submission t = OfItsLog s submission (λ client entries. OneByOne client (client_sight_of s client.number) 0 [] s.tree entries t.tree)

-- the two states differ in their leases at most
abbrev pub DiffersInLeases : (s t : State) → Type 0
DiffersInLeases s t = (leases : Leases) × (t ≡ record s { leases = leases })

-- the two states differ in where blocks lie at most
abbrev pub DiffersInPlacement : (s t : State) → Type 0
DiffersInPlacement s t = (placement : Placement) × (t ≡ record s { placement = placement })

-- a Yes has applied its log's entries, and another reply changes nothing
abbrev pub ReplyMeans : State → Submission → Reply → State → Type 0
ReplyMeans s submission (Accepted need) t = HasEntriesDone s submission t
ReplyMeans s submission (NoRoom need free) t = t ≡ s
ReplyMeans s submission (Refused fault) t = t ≡ s

-- a submission has a reply; a call for the leases has an answer of its own, and changes leases only; so
-- has one that moves blocks, and changes where they lie only, and nothing where it is refused
abbrev pub MeansOf : State → Call → CallAnswer → State → Type 0
MeansOf s (Submit submission reading) (Replied reply) t = ReplyMeans s submission reply t
MeansOf s (Submit submission reading) (Done number) t = ⊥
MeansOf s (Submit submission reading) (NotDone fault) t = ⊥
MeansOf s (Lease client path kind end) (Replied reply) t = ⊥
MeansOf s (Lease client path kind end) (Done number) t = DiffersInLeases s t
MeansOf s (Lease client path kind end) (NotDone fault) t = DiffersInLeases s t
MeansOf s (Drop client number) (Replied reply) t = ⊥
MeansOf s (Drop client number) (Done told) t = DiffersInLeases s t
MeansOf s (Drop client number) (NotDone fault) t = DiffersInLeases s t
MeansOf s (Tick moment) (Replied reply) t = ⊥
MeansOf s (Tick moment) (Done told) t = DiffersInLeases s t
MeansOf s (Tick moment) (NotDone fault) t = DiffersInLeases s t
MeansOf s (Migrate moves) (Replied reply) t = ⊥
MeansOf s (Migrate moves) (Done count) t = DiffersInPlacement s t
MeansOf s (Migrate moves) (NotDone fault) t = t ≡ s
MeansOf s (LeaseAt client number kind end) (Replied reply) t = ⊥
MeansOf s (LeaseAt client number kind end) (Done told) t = DiffersInLeases s t
MeansOf s (LeaseAt client number kind end) (NotDone fault) t = DiffersInLeases s t

abbrev pub Means : State → Row → State → Type 0
Means s row t = MeansOf s row.call row.answer t
