-- Look-ups: what frames ask that make no call of a desk. Numbers are big-endian.
use Rattle.std.specs.Prelude.{◌≡◌, ◌≢◌, ℕ, ◌^◌, ◌<◌, List, [], ◌++◌, Option, Some, None, Ok, Err}
use Rattle.kfs_model.specs.Entry.{Log}
use Rattle.kfs_model.specs.Spelling.{IsName, LogAnswer, SpellingFault, byte, number32, number64}
use Rattle.kfs_call.specs.Asking.{front}
use Rattle.kfs_server.specs.Frames.Frame.{Frame}

pub data LookUp : Type 0 where
  -- the header of the node with this number
  Node : (number : ℕ) → LookUp
  -- the desk's figures
  State : LookUp
  -- that the journal is begun anew
  Checkpoint : LookUp
  -- where a name of the directory leads
  Find : (directory : ℕ) (name : List ℕ) → LookUp
  -- the names of the directory behind one of them, or from the first one on, in so many bytes at most
  Names : (directory limit : ℕ) (after : Option (List ℕ)) → LookUp
  -- the bytes of the file from a position on, so many at most
  Read : (file start count : ℕ) → LookUp
  -- the places of the tiers, and how many of them are free
  Places : LookUp
  -- the sender's own leases on nodes from the first number on, in so many bytes at most
  Leases : (first limit : ℕ) → LookUp
  -- the plan of the sender's own log, whose bytes these are
  Plan : (log : List ℕ) → LookUp

abbrev pub after_bytes : Option (List ℕ) → List ℕ
after_bytes None = []
after_bytes (Some name) = name

-- the encoding of a look-up: a tag that no call has, and then its fields
abbrev pub look_up_bytes : LookUp → List ℕ
look_up_bytes (Node number) = byte 64 ++ number32 number
look_up_bytes State = byte 65
look_up_bytes Checkpoint = byte 66
look_up_bytes (Find directory name) = byte 67 ++ number32 directory ++ name
look_up_bytes (Names directory limit after) = byte 68 ++ number32 directory ++ number32 limit ++ after_bytes after
look_up_bytes (Read file start count) = byte 69 ++ number32 file ++ number64 start ++ number32 count
look_up_bytes Places = byte 70
look_up_bytes (Leases first limit) = byte 71 ++ number32 first ++ number32 limit
look_up_bytes (Plan log) = byte 72 ++ log

abbrev pub IsAfterName : Option (List ℕ) → Type 0
IsAfterName None = Unit {0}
IsAfterName (Some name) = IsName name

-- its numbers fit their widths, and names are names
abbrev pub IsLookUp : LookUp → Type 0
IsLookUp (Node number) = number < 2 ^ 32
IsLookUp State = Unit {0}
IsLookUp Checkpoint = Unit {0}
IsLookUp (Find directory name) = (directory < 2 ^ 32) × IsName name
IsLookUp (Names directory limit after) = (directory < 2 ^ 32) × (limit < 2 ^ 32) × IsAfterName after
IsLookUp (Read file start count) = (file < 2 ^ 32) × (start < 2 ^ 64) × (count < 2 ^ 32)
IsLookUp Places = Unit {0}
IsLookUp (Leases first limit) = (first < 2 ^ 32) × (limit < 2 ^ 32)
IsLookUp (Plan log) = Unit {0}

-- the bytes are a log of this client
abbrev pub IsLogOf : (client : ℕ) → List ℕ → Type 0
IsLogOf client bytes = (log : Log) × LogAnswer bytes (Ok log) × (log.client ≡ client)

-- the state and the checkpoint are the front's, and a log is its client's. What others may ask is asked of the desk's state
-- where they are answered; a node's header may be asked for by each client, since what leads to its number was asked before
abbrev pub MayAsk : LookUp → (from : ℕ) → Type 0
MayAsk (Node number) from = Unit {0}
MayAsk State from = from ≡ front
MayAsk Checkpoint from = from ≡ front
MayAsk (Find directory name) from = Unit {0}
MayAsk (Names directory limit after) from = Unit {0}
MayAsk (Read file start count) from = Unit {0}
MayAsk Places from = Unit {0}
MayAsk (Leases first limit) from = Unit {0}
MayAsk (Plan log) from = IsLogOf from log

-- the look-up is another's than this sender's: the front's, or of another client's log
abbrev pub IsAnothers : LookUp → (from : ℕ) → Type 0
IsAnothers (Node number) from = ⊥
IsAnothers State from = from ≢ front
IsAnothers Checkpoint from = from ≢ front
IsAnothers (Find directory name) from = ⊥
IsAnothers (Names directory limit after) from = ⊥
IsAnothers (Read file start count) from = ⊥
IsAnothers Places from = ⊥
IsAnothers (Leases first limit) from = ⊥
IsAnothers (Plan bytes) from = (log : Log) × LogAnswer bytes (Ok log) × (log.client ≢ from)

-- it is of a log, and its bytes are none
abbrev pub IsOfNoLog : LookUp → Type 0
IsOfNoLog (Node number) = ⊥
IsOfNoLog State = ⊥
IsOfNoLog Checkpoint = ⊥
IsOfNoLog (Find directory name) = ⊥
IsOfNoLog (Names directory limit after) = ⊥
IsOfNoLog (Read file start count) = ⊥
IsOfNoLog Places = ⊥
IsOfNoLog (Leases first limit) = ⊥
IsOfNoLog (Plan bytes) = (why : SpellingFault) × LogAnswer bytes (Err why)

-- the frame asks for this look-up
pub record AsksLookUp (f : Frame) (look_up : LookUp) : Type 0 where
  pub fits : IsLookUp look_up
  pub spelled : f.body ≡ look_up_bytes look_up

-- these bytes are no look-up's
abbrev pub IsNoLookUp : List ℕ → Type 0
IsNoLookUp bytes = (look_up : LookUp) → IsLookUp look_up → bytes ≢ look_up_bytes look_up
