-- The run of a log: the entries in turn, each judged at its own point, up to the first fault.
use Rattle.std.specs.Prelude.{◌≡◌, ℕ, ◌+◌, ◌==◌, List, [], ◌∷◌, map, Option, Some, None, Result, Ok, Err, unwrap_or, slice_get}
use Rattle.std.specs.List.{list_any}
use Rattle.kfs_model.specs.Access.{Client}
use Rattle.kfs_model.specs.Table.{mapped, numbers, get}
use Rattle.kfs_model.specs.Tree.{Tree, Node, Body, FileBody, DirectoryBody, content_of}
use Rattle.kfs_model.specs.Sight.{Sight, ClientSight, sight}
use Rattle.kfs_model.specs.Check.{Reason, Reason-discrete, EntryContext, first_fault}
use mathlib.Core.Path.{ap}
use native.Mathlib.Decide.{ℕ_discrete}
use Rattle.kfs_model.specs.Entry.{Entry, Create, Write, Truncate, Link, Unlink, Rename, Chmod, Regroup}
use Rattle.kfs_model.specs.Effect.{Filling, effect}

-- the numbers that the log has created so far, the latest first
abbrev pub created_by : Entry → List ℕ → List ℕ
created_by (Create d m n kind mode) numbers = n ∷ numbers
created_by (Write n offset payload) numbers = numbers
created_by (Truncate n size) numbers = numbers
created_by (Link n d m) numbers = numbers
created_by (Unlink d m kind) numbers = numbers
created_by (Rename d m e k) numbers = numbers
created_by (Chmod n mode) numbers = numbers
created_by (Regroup n group) numbers = numbers

abbrev pub entry_context : Client → (before : ClientSight) → (now : Sight) → (created : List ℕ) → EntryContext
entry_context client before now created = record {
  client = client;
  before = before;
  now = now;
  created = λ n. list_any (λ c. c == n) created;
}

-- the first bad entry, and why
pub record EntryFault : Type 0 where
  pub entry : ℕ
  pub reason : Reason

-- two faults are equal where their entries and their reasons are
pub EntryFault-equality : Discrete EntryFault
EntryFault-equality f g = both (ℕ_discrete f.entry g.entry) (Reason-discrete ℕ_discrete f.reason g.reason)
  where
    both : Dec (f.entry ≡ g.entry) → Dec (f.reason ≡ g.reason) → Dec (f ≡ g)
    both (yes e) (yes r) = yes (λ i. record { entry = e i; reason = r i })
    both (yes e) (no differ) = no (λ p. differ (ap (λ (fault : EntryFault). fault.reason) p))
    both (no differ) r = no (λ p. differ (ap (λ (fault : EntryFault). fault.entry) p))

module _ {B : Type 0} (filling : Filling B) (client : Client) (before : ClientSight) where
  -- the run from the entry with this index on, over this tree
  unfoldable pub run_from : (index : ℕ) → (created : List ℕ) → Tree B → List Entry → Result (Tree B) EntryFault
  run_from index created t [] = Ok t
  run_from index created t (entry ∷ entries) = elim (first_fault (entry_context client before (sight t) created) entry) [
    | None ↦ run_from (index + 1) (created_by entry created) (effect filling client index entry t) entries
    | Some reason ↦ Err (record { entry = index; reason = reason })
  ]

  abbrev pub run : Tree B → List Entry → Result (Tree B) EntryFault
  run t entries = run_from 0 [] t entries

-- ---- what a file is made of

abbrev pub over_bytes : Filling ℕ
over_bytes = record { gap = 0; payload = λ index payload. payload }

-- where a byte comes from: a file's byte from before the log, a gap, or a byte of an entry's payload
pub data Mark : Type 0 where
  Base : (number place : ℕ) → Mark
  Zero : Mark
  Payload : (entry place : ℕ) → Mark

abbrev pub places_from : {X : Type 0} → (ℕ → X) → ℕ → List ℕ → List X
places_from at place [] = []
places_from at place (b ∷ bs) = at place ∷ places_from at (place + 1) bs

abbrev pub over_marks : Filling Mark
over_marks = record { gap = Zero; payload = λ index payload. places_from (Payload index) 0 payload }

module _ {B C : Type 0} where
  abbrev pub mapped_body : (List B → List C) → Body B → Body C
  mapped_body f (FileBody content) = FileBody (f content)
  mapped_body f DirectoryBody = DirectoryBody

  -- the same tree, with each file's content changed by a function of its number and content
  abbrev pub mapped_tree : (ℕ → List B → List C) → Tree B → Tree C
  mapped_tree f t = record {
    nodes = mapped (λ n (node : Node B). record { mode = node.mode; uid = node.uid; gid = node.gid; body = mapped_body (f n) node.body }) t.nodes;
    names = t.names;
  }

abbrev pub base_marks : ℕ → ℕ → List ℕ → List Mark
base_marks number place content = places_from (Base number) place content

-- the tree with each byte replaced by the mark that says where it is
abbrev pub marked : Tree ℕ → Tree Mark
marked t = mapped_tree (λ n content. base_marks n 0 content) t

-- the tree of marks after the log
abbrev pub marks_after : Client → (before : ClientSight) → Tree ℕ → List Entry → Result (Tree Mark) EntryFault
marks_after client before t entries = run over_marks client before (marked t) entries

-- ---- what marks stand for

abbrev pub payload_of : Option Entry → List ℕ
payload_of (Some (Write n offset payload)) = payload
payload_of _ = []

abbrev pub byte_at : List ℕ → (place : ℕ) → ℕ
byte_at bytes place = unwrap_or (slice_get bytes place) 0

-- the byte that a mark stands for: one of the old tree, zero, or one of a payload
abbrev pub byte_of : Tree ℕ → List Entry → Mark → ℕ
byte_of before entries (Base number place) = byte_at (content_of (get before.nodes number)) place
byte_of before entries Zero = 0
byte_of before entries (Payload entry place) = byte_at (payload_of (slice_get entries entry)) place

-- the outcome of a run over marks, with each mark replaced by its byte
abbrev pub looked_up : (Mark → ℕ) → Result (Tree Mark) EntryFault → Result (Tree ℕ) EntryFault
looked_up byte (Ok t) = Ok (mapped_tree (λ n content. map byte content) t)
looked_up byte (Err fault) = Err fault

-- the run over marks, with each mark looked up in the old tree and the payloads
abbrev pub run_by_marks : Client → (before : ClientSight) → Tree ℕ → List Entry → Result (Tree ℕ) EntryFault
run_by_marks client before t entries = looked_up (byte_of t entries) (marks_after client before t entries)
