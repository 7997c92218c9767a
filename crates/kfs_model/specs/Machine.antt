-- The machine. A step is one call with its answer and, for a Yes, the places of the written blocks. A
-- docket is a list of such rows.
use Rattle.std.specs.Prelude.{◌≡◌, ℕ, ◌+◌, ◌==◌, ◌&&◌, not, nat_lt, Bool, List, [], ◌∷◌, length, zip, Option, Some, None, is_some, Result, Ok, Err, if◌then◌else◌}
use Rattle.std.specs.List.{list_any, list_all}
use native.Mathlib.Decide.{ℕ_discrete}
use Rattle.kfs_model.specs.Access.{Client}
use Rattle.kfs_model.specs.Distinct.{are_distinct}
use Rattle.kfs_model.specs.Table.{get, insert, retain}
use Rattle.kfs_model.specs.Tree.{Tree, headers}
use Rattle.kfs_model.specs.Sight.{ClientSight, sight, is_file}
use Rattle.kfs_model.specs.Lease.{Leases, LeaseKind, LeaseFault, LeaseFault-discrete, no_leases, granted, granted_by_number, dropped, ticked, without_gone}
use Rattle.kfs_model.specs.Check.{is_some_and}
use Rattle.kfs_model.specs.Allowed.{IsAllowed}
use Rattle.kfs_model.specs.Entry.{Entry}
use Rattle.kfs_model.specs.Effect.{effect}
use Rattle.kfs_model.specs.Run.{Mark, over_bytes, entry_context, created_by}
use Rattle.kfs_model.specs.Placement.{Placement, TierSizes, in_first_tier, written_blocks, cleared_blocks, block_count}
use Rattle.kfs_model.specs.Migration.{Move, MoveFault, MoveFault-discrete, fault_of_moves, moved_by}
use Rattle.kfs_model.specs.Judgement.{State, Verdict, Yes, Reply, Reply-equality, is_yes, Accepted, Submission, Reading, IsReadAs, verdict_on, reply_to, free_places}

-- ---- landing

-- whether these are free places of tier 0, one for each block, no two the same
abbrev pub are_chosen : State → (blocks : List (ℕ × ℕ)) → (places : List ℕ) → Bool
are_chosen s blocks places =
    (length places == length blocks) && list_all (λ place. list_any (λ free. free == place) (free_places s)) places && are_distinct places

-- whether the block is still one of the file, and isn't cleared
abbrev pub stays : Tree ℕ → Tree Mark → ℕ × ℕ → Bool
stays after marked_after block =
    is_some_and (get (headers after) block.0) (λ h. is_file (Some h) && nat_lt block.1 (block_count h.size))
    && not (list_any (λ other. (other.0 == block.0) && (other.1 == block.1)) (cleared_blocks marked_after))

abbrev pub placed : List ((ℕ × ℕ) × ℕ) → Placement → Placement
placed [] placement = placement
placed (e ∷ es) placement = insert (placed es placement) e.0 (in_first_tier e.1)

-- written blocks lie at the new places, cleared and removed blocks lie nowhere, all others stay where
-- they were
abbrev pub placement_after : State → Tree ℕ → Tree Mark → List ℕ → Placement
placement_after s after marked_after places = placed (zip (written_blocks marked_after) places) (retain (stays after marked_after) s.placement)

-- the leases without those on nodes that the log removed
abbrev pub leases_after : State → Tree ℕ → Leases
leases_after s after = without_gone s.leases (λ n. is_some (get after.nodes n))

abbrev pub landed : State → Tree ℕ → Tree Mark → List ℕ → State
landed s after marked_after places = record s { tree = after; leases = leases_after s after; placement = placement_after s after marked_after places }

-- ---- calls and their answers

pub data Call : Type 0 where
  -- a submission's bytes, with the log and plan that they decode to
  Submit : (submission : Submission) (reading : Reading) → Call
  Lease : (client : ℕ) (path : List ℕ) (kind : LeaseKind) (end : ℕ) → Call
  Drop : (client number : ℕ) → Call
  Tick : (moment : ℕ) → Call
  Migrate : (moves : List Move) → Call
  LeaseAt : (client number : ℕ) (kind : LeaseKind) (end : ℕ) → Call

-- why a call that is no submission was refused
pub data CallFault : Type 0 where
  LeaseRefused : (fault : LeaseFault) → CallFault
  MovesRefused : (fault : MoveFault) → CallFault
  deriving Discrete as CallFault-discrete

pub data CallAnswer : Type 0 where
  Replied : (reply : Reply) → CallAnswer
  -- the call was carried out; the number is the node's, the moment, or how many blocks moved
  Done : (number : ℕ) → CallAnswer
  NotDone : (fault : CallFault) → CallAnswer
  deriving Discrete as CallAnswer-discrete

-- whether two answers are the same
abbrev pub CallAnswer-equality : Discrete CallAnswer
CallAnswer-equality = CallAnswer-discrete Reply-equality ℕ_discrete (CallFault-discrete (LeaseFault-discrete ℕ_discrete) (MoveFault-discrete ℕ_discrete))

abbrev pub same_answer : CallAnswer → CallAnswer → Bool
same_answer a b = is_yes (CallAnswer-equality a b)

-- ---- one step

-- the answer of a call, and the state afterwards
abbrev pub CallOutcome : Type 0
CallOutcome = CallAnswer × State

-- the outcome, where no places are listed
abbrev pub unplaced : (places : List ℕ) → CallOutcome → Option CallOutcome
unplaced [] outcome = Some outcome
unplaced (place ∷ places) outcome = None

-- the reply and the state afterwards; only a Yes with room changes the state
abbrev pub replied : State → (places : List ℕ) → Verdict → Reply → Option CallOutcome
replied s places (Yes after marked_after) (Accepted need) =
    if are_chosen s (written_blocks marked_after) places then Some (Replied (Accepted need), landed s after marked_after places) else None
replied s places verdict reply = unplaced places (Replied reply, s)

abbrev pub leased : State → (places : List ℕ) → Result ℕ LeaseFault × Leases → Option CallOutcome
leased s places (Ok number, leases) = unplaced places (Done number, record s { leases = leases })
leased s places (Err fault, leases) = unplaced places (NotDone (LeaseRefused fault), record s { leases = leases })

-- moves without a fault are made, and others change nothing
abbrev pub migrated : State → (places : List ℕ) → List Move → Option MoveFault → Option CallOutcome
migrated s places moves None = unplaced places (Done (length moves), record s { placement = moved_by moves s.placement })
migrated s places moves (Some fault) = unplaced places (NotDone (MovesRefused fault), s)

-- the answer of the call and the state afterwards; none where the places aren't one free place for each
-- written block
unfoldable pub outcome_of : State → Call → (places : List ℕ) → Option CallOutcome
outcome_of s (Submit submission reading) places = replied s places (verdict_on s submission.client reading) (reply_to s (verdict_on s submission.client reading))
outcome_of s (Lease client path kind end) places = leased s places (granted s.leases (sight s.tree) s.clients client path kind end)
outcome_of s (Drop client number) places = leased s places (dropped s.leases s.clients client number)
outcome_of s (Tick moment) places = leased s places (ticked s.leases moment)
outcome_of s (Migrate moves) places = migrated s places moves (fault_of_moves s.sizes s.placement moves)
outcome_of s (LeaseAt client number kind end) places = leased s places (granted_by_number s.leases (sight s.tree) s.clients client number kind end)

-- a row of the docket: a call and its answer; whether that says that a submission was revalidated; and
-- for a Yes the places of the written blocks in tier 0, ascending by block
pub record Row : Type 0 where
  pub call : Call
  pub answer : CallAnswer
  pub rejudged : Bool
  pub places : List ℕ

abbrev pub answered : CallAnswer → CallOutcome → Option State
answered answer outcome = if same_answer outcome.0 answer then Some outcome.1 else None

-- the state after the row, if the row fits the state; that doesn't look at `rejudged`
unfoldable pub next : State → Row → Option State
next s row = elim (outcome_of s row.call row.places) [ None ↦ None | Some outcome ↦ answered row.answer outcome ]

-- ---- dockets

-- the state in which a machine begins: no leases, moment 0
abbrev pub opening : List Client → TierSizes → Tree ℕ → Placement → State
opening clients sizes tree placement = record { clients = clients; sizes = sizes; tree = tree; leases = no_leases; placement = placement }

-- the state after all rows, if each one fits
unfoldable pub after : State → List Row → Option State
after s [] = Some s
after s (row ∷ rows) = elim (next s row) [ None ↦ None | Some t ↦ after t rows ]

-- the log and plan in the row are what the row's bytes decode to
abbrev pub IsRead : Row → Type 0
IsRead row = IsReadCall row.call
  where
    IsReadCall : Call → Type 0
    IsReadCall (Submit submission reading) = IsReadAs submission reading
    IsReadCall (Lease client path kind end) = Unit {0}
    IsReadCall (Drop client number) = Unit {0}
    IsReadCall (Tick moment) = Unit {0}
    IsReadCall (Migrate moves) = Unit {0}
    IsReadCall (LeaseAt client number kind end) = Unit {0}

-- ---- what a Yes means

-- the entries in turn lead from the one tree to the other
abbrev pub Gives : Client → (index : ℕ) → Tree ℕ → List Entry → Tree ℕ → Type 0
Gives client index t [] after = after ≡ t
Gives client index t (entry ∷ entries) after = Gives client (index + 1) (effect over_bytes client index entry t) entries after

-- each entry is allowed at its own point of the log
abbrev pub AreAllowed : Client → (before : ClientSight) → (index : ℕ) → (created : List ℕ) → Tree ℕ → List Entry → Type 0
AreAllowed client before index created t [] = Unit {0}
AreAllowed client before index created t (entry ∷ entries) =
    IsAllowed (entry_context client before (sight t) created) entry × AreAllowed client before (index + 1) (created_by entry created) (effect over_bytes client index entry t) entries

-- the tree results from the entries in turn, each one allowed
abbrev pub OneByOne : Client → (before : ClientSight) → (index : ℕ) → (created : List ℕ) → Tree ℕ → List Entry → Tree ℕ → Type 0
OneByOne client before index created t entries after = AreAllowed client before index created t entries × Gives client index t entries after
