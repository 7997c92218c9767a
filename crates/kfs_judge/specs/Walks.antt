-- What a walk over a log's entries found, in terms of a state.
use Rattle.std.specs.Prelude.{◌≡◌, ℕ, List, [], map, length, Option, None, Some, Result, Ok, Err, IsErr, Bool}
use Rattle.std.specs.List.{AllByRecursion}
use Rattle.kfs_judge_reads.specs.Reads.{Agrees, Always, AreAmong}
use Rattle.kfs_judge_reads.specs.View.{clients_of, client_sight_in}
use Rattle.kfs_model.specs.Looked.{seen_run, looked_cells}
use Rattle.kfs_model.specs.Access.{Client}
use Rattle.kfs_model.specs.Lease.{row_of}
use Rattle.kfs_model.specs.Tree.{Tree}
use Rattle.kfs_model.specs.Sight.{Sight, ClientSight, sight, client_sight}
use Rattle.kfs_model.specs.Soundness.{IsSound}
use Rattle.kfs_model.specs.CleanStep.{Fits}
use Rattle.kfs_model.specs.Machine.{OneByOne}
use Rattle.kfs_model.specs.Entry.{Entry}
use Rattle.kfs_model.specs.Run.{EntryFault, run, over_bytes}
use Rattle.kfs_image_nodes.specs.Lent.{IsSameNet}
use Rattle.kfs_image_nodes.specs.declared.net.Net.{Net}
use Rattle.kfs_judge.specs.declared.walk.EntryFault.{EntryFault as CodeEntryFault}
use Rattle.kfs_judge.specs.Step.Nets.{IsNetOf}
use Rattle.kfs_pieces.specs.declared.log.FileSize.{FileSize}
use Rattle.kfs_pieces.specs.Sizes.{AreSizesBetween, SizesAscend, IsSize}
use Rattle.kfs_judge.specs.Check.Checks.{reason_of}
use Rattle.kfs_judge_reads.specs.declared.draft.draft.Draft.{Draft}
use Rattle.kfs_judge.specs.declared.walk.Walk.{Walk}
use Rattle.kfs_judge_reads.specs.declared.view.View.{View}
use Rattle.kfs_entry.specs.Answers.{SpansAreWithin}
use Rattle.kfs_types.specs.Views.{entry_of}
use Rattle.kfs_types.specs.declared.entry.Log.{Log as CodeLog}
use Rattle.kfs_judge_reads.specs.Draft.Overlay.{over}

abbrev pub fault_of : CodeEntryFault → EntryFault
fault_of fault = record { entry = fault.index; reason = reason_of fault.reason }

module _ {A : Type 0} where
  -- the run over the cells stops at this fault, or ends with what the draft shows
  abbrev pub EndsAt : Client → Draft A → ClientSight → List Entry → Option CodeEntryFault → Type 0
  EndsAt client draft before entries None = seen_run client before entries ≡ Ok (over draft before.sight)
  EndsAt client draft before entries (Some fault) = seen_run client before entries ≡ Err (fault_of fault)

  -- the run over the cells stops at this fault; or this is its net change, and these are the sizes of
  -- the files that it changes or reaches
  abbrev pub WalkEndsIn : Client → ClientSight → List Entry → Result (Net A (List ℕ)) CodeEntryFault → List FileSize → Type 0
  WalkEndsIn client before entries (Err fault) sizes = seen_run client before entries ≡ Err (fault_of fault)
  WalkEndsIn client before entries (Ok net) sizes = (after : Sight) × (seen_run client before entries ≡ Ok after) × IsNetOf before.sight after net × AreSizesBetween before.sight after entries sizes

  -- the entries in turn stop at this fault; or each is allowed, they lead to a sound tree with this net
  -- change, and the sizes are those of the files that they change or reach
  abbrev pub ComesToTree : Client → (ℕ → Bool) → Tree ℕ → List Entry → Result (Net A (List ℕ)) CodeEntryFault → List FileSize → Type 0
  ComesToTree client held t entries (Err fault) sizes = run over_bytes client (client_sight t held) t entries ≡ Err (fault_of fault)
  ComesToTree client held t entries (Ok net) sizes = (after : Tree ℕ) × (run over_bytes client (client_sight t held) t entries ≡ Ok after) × IsSound after × OneByOne client (client_sight t held) 0 [] t entries after × IsNetOf (sight t) (sight after) net × AreSizesBetween (sight t) (sight after) entries sizes

-- the same fault, or nets of the same rows
abbrev pub IsSameOutcome : {A : Type 0} → Result (Net A (List ℕ)) CodeEntryFault → Result (Net A (List ℕ)) CodeEntryFault → Type 0
IsSameOutcome (Err fault) (Err other) = other ≡ fault
IsSameOutcome (Ok net) (Ok other) = IsSameNet net other
IsSameOutcome (Err fault) (Ok other) = ⊥
IsSameOutcome (Ok net) (Err other) = ⊥

-- the client is the one with this number
abbrev pub IsRowOf : List Client → ℕ → Client → Type 0
IsRowOf rows wanted client = row_of rows wanted ≡ Some client

-- The outcome is right for the client's log: at every sound tree and all leases that agree with the
-- reads, and whatever bytes the payloads are.
abbrev pub IsWalkOf : {A : Type 0} → Client → CodeLog A (List ℕ) → Walk A (List ℕ) → Type 0
IsWalkOf client log walk =
    (source : List ℕ) → SpansAreWithin (length source) log → (tree : Tree ℕ) (held : ℕ → Bool) → Fits client tree (map (entry_of source) log.entries) → Agrees walk.reads.entries (client_sight tree held)
    → ComesToTree client held tree (map (entry_of source) log.entries) walk.outcome walk.sizes.items

-- the same over cells: the outcome is right in every state that agrees with the reads
abbrev pub IsCellWalkOf : {A : Type 0} → Client → CodeLog A (List ℕ) → Walk A (List ℕ) → Type 0
IsCellWalkOf client log walk = Always walk.reads.entries (λ before. (source : List ℕ) → SpansAreWithin (length source) log → WalkEndsIn client before (map (entry_of source) log.entries) walk.outcome walk.sizes.items)

-- the walk's sizes ascend by number, and none is over the greatest; where there is a bad entry there
-- are no sizes
pub record HasOrderedSizes {A : Type 0} (walk : Walk A (List ℕ)) : Type 0 where
  pub ascending : SizesAscend 0 walk.sizes.items
  pub short : AllByRecursion IsSize walk.sizes.items
  pub none : IsErr walk.outcome → walk.sizes.items ≡ []

-- each read is at a cell that the log looks at in the view
abbrev pub ReadsLookedCells : {A : Type 0} → View A → CodeLog A (List ℕ) → Walk A (List ℕ) → Type 0
ReadsLookedCells view log walk =
    (client : Client) → IsRowOf (clients_of view) log.client client → (source : List ℕ) → SpansAreWithin (length source) log
    → AreAmong walk.reads.entries (looked_cells client (client_sight_in view log.client) (map (entry_of source) log.entries))
