-- The words in which the laws are stated: for each run, each entry, each lease call, each step of the
-- machine.
use Rattle.std.specs.Prelude.{◌≡◌, ℕ, List, Option, Some, None}
use Rattle.kfs_model.specs.Access.{Client}
use Rattle.kfs_model.specs.Allowed.{IsAllowed}
use Rattle.kfs_model.specs.Check.{EntryContext, first_fault}
use Rattle.kfs_model.specs.CleanStep.{Fits, IsClean, StaysSound}
use Rattle.kfs_model.specs.Effect.{Filling}
use Rattle.kfs_model.specs.Entry.{Entry}
use Rattle.kfs_model.specs.Fresh.{fresh_tree}
use Rattle.kfs_model.specs.Judgement.{State}
use Rattle.kfs_model.specs.Lease.{LeaseKind, LeaseOutcome, Leases, granted, granted_by_number}
use Rattle.kfs_model.specs.Machine.{opening}
use Rattle.kfs_model.specs.Looked.{AgreeWhereLooked, HaveSameRun}
use Rattle.kfs_model.specs.Order.{IsInOrder}
use Rattle.kfs_model.specs.Migration.{Move, fault_of_moves, moved_by}
use Rattle.kfs_model.specs.Placement.{TierSizes, Placement}
use Rattle.kfs_model.specs.Run.{run, over_bytes, run_by_marks}
use Rattle.kfs_model.specs.Sight.{ClientSight, Sight}
use Rattle.kfs_model.specs.Table.{empty}
use Rattle.kfs_model.specs.Tree.{Tree}

-- P holds of each run: for any client, whatever it saw before the log, and for any tree and entries
abbrev pub EachRun : (Client → ClientSight → Tree ℕ → List Entry → Type 0) → Type 0
EachRun P = (client : Client) (before : ClientSight) (tree : Tree ℕ) (entries : List Entry) → P client before tree entries

-- an entry without a failed check is allowed to its client
abbrev pub CleanIsAllowed : Type 0
CleanIsAllowed = (context : EntryContext) (entry : Entry) → first_fault context entry ≡ None → IsAllowed context entry

-- the bytes that a run ends with are its marks, looked up in the old tree and in the payloads
abbrev pub MarksGiveBytes : Type 0
MarksGiveBytes = EachRun (λ client before tree entries. run_by_marks client before tree entries ≡ run over_bytes client before tree entries)

-- with this filling, an entry without a failed check leaves a sound tree sound
abbrev pub KeepsSound : {B : Type 0} → Filling B → Type 0
KeepsSound {B} filling = (context : EntryContext) (index : ℕ) (tree : Tree B) (entry : Entry) → IsClean context tree entry → StaysSound filling context.client index tree entry

-- two sound trees, with a client and entries that are in range
pub record BothFit (client : Client) (one other : Tree ℕ) (entries : List Entry) : Type 0 where
  pub first : Fits client one entries
  pub second : Fits client other entries

-- two states with the same answers at the cells that a log looks at have the same run of the log
abbrev pub CellsDecide : Type 0
CellsDecide = (client : Client) (one other : ClientSight) (entries : List Entry) → AgreeWhereLooked client one other entries → HaveSameRun client one other entries

-- P holds of any two sound trees, where the client and the entries are in range
abbrev pub EachTwoTrees : (P : Client → (one other : Tree ℕ) → List Entry → Type 0) → Type 0
EachTwoTrees P = (client : Client) (one other : Tree ℕ) (entries : List Entry) → BothFit client one other entries → P client one other entries

-- P holds of each call of grant, on any tree, by any client
abbrev pub EachGrant : ((Leases → LeaseOutcome) → Type 0) → Type 0
EachGrant P = (sight : Sight) (clients : List Client) (client : ℕ) (path : List ℕ) (kind : LeaseKind) (end : ℕ) → P (λ leases. granted leases sight clients client path kind end)

-- P holds of each grant by number, on any tree, by any client
abbrev pub EachGrantByNumber : ((Leases → LeaseOutcome) → Type 0) → Type 0
EachGrantByNumber P = (sight : Sight) (clients : List Client) (client number : ℕ) (kind : LeaseKind) (end : ℕ) → P (λ leases. granted_by_number leases sight clients client number kind end)

-- P holds of where blocks lie before and after any moves without a fault
abbrev pub EachMoves : (TierSizes → (before after : Placement) → Type 0) → Type 0
EachMoves P = (sizes : TierSizes) (before : Placement) (moves : List Move) → fault_of_moves sizes before moves ≡ None → P sizes before (moved_by moves before)

-- the step leads from a state in order to a state in order, if it leads anywhere
abbrev pub KeepsOrder : (State → Option State) → Type 0
KeepsOrder step = (s t : State) → IsInOrder s → step s ≡ Some t → IsInOrder t

-- the state in which a machine with a new image begins
abbrev pub opening_of_new : List Client → TierSizes → State
opening_of_new clients sizes = opening clients sizes fresh_tree empty
