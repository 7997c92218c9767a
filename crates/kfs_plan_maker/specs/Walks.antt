-- A client's log as the code has it, and its walk with the leases that it may ask for.
use Rattle.std.specs.Prelude.{◌≡◌, ◌≢◌, ℕ, ◌+◌, ◌*◌, ◌≤◌, Bool, List, map, length, IfOk, Ok}
use Rattle.std.specs.List.{AllByRecursion}
use Rattle.kfs_entry.specs.Answers.{AreSpanned, SpansAreWithin, log_of}
use Rattle.kfs_types.specs.Views.{entry_of, piece_of}
use Rattle.kfs_types.specs.declared.entry.Log.{Log as CodeLog}
use Rattle.kfs_types.specs.declared.plan.Plan.{Plan as CodePlan}
use Rattle.kfs_image_nodes.specs.declared.net.Net.{Net}
use Rattle.kfs_judge.specs.Walks.{IsWalkOf}
use Rattle.kfs_judge.specs.declared.walk.Walk.{Walk}
use Rattle.kfs_judge.specs.Views.{Agrees}
use Rattle.kfs_model.specs.Access.{Client}
use Rattle.kfs_model.specs.Entry.{Log}
use Rattle.kfs_model.specs.Limits.{entry_limit}
use Rattle.kfs_model.specs.Sight.{sight, client_sight}
use Rattle.kfs_model.specs.Spelling.{LogAnswer}
use Rattle.kfs_model.specs.Tree.{Tree}
use Rattle.kfs_plan.specs.PlanCheck.{ArePiecesOf}
use Rattle.kfs_pieces.specs.RangeCounts.{grown_count}
use Rattle.kfs_plan_maker.specs.AskedLeases.{HoldsNamed}

module _ {A : Type 0} where
  -- the bytes decode to the log, which has this client's number
  pub record IsLogFrom (number : ℕ) (source : List ℕ) (log : CodeLog A (List ℕ)) : Type 0 where
    pub owner : log.client ≡ number
    pub spelled : LogAnswer source (Ok (log_of source log))
    pub within : SpansAreWithin (length source) log
    pub spanned : AreSpanned log
    pub short : length log.entries ≤ entry_limit
    pub only : (other : Log) → LogAnswer source (Ok other) → log_of source log ≡ other

  -- the walk is right for the log, and agrees with a state of this tree in which the client holds all
  -- nodes that the entries name
  pub record IsWalkWithLeases (client : Client) (t : Tree ℕ) (log : CodeLog A (List ℕ)) (walk : Walk A (List ℕ)) : Type 0 where
    pub held : ℕ → Bool
    pub named : (source : List ℕ) → AllByRecursion (HoldsNamed held (sight t).name) (map (entry_of source) log.entries)
    pub agrees : Agrees walk.reads.entries (client_sight t held)
    pub walks : IsWalkOf client log walk

  -- the plan has the log's version, the names and nodes of the walk's net, and right pieces of the log,
  -- at most two for each file that grew and for each entry
  pub record HasRowsOf (log : CodeLog A (List ℕ)) (walk : Walk A (List ℕ)) (plan : CodePlan A (List ℕ)) : Type 0 where
    pub version : plan.version ≡ log.version
    pub net : IfOk walk.outcome (λ (net : Net A (List ℕ)). (plan.names ≡ net.names.items) × (plan.nodes ≡ net.nodes.items))
    pub pieces : (client : Client) → IsWalkOf client log walk → ArePiecesOf client log walk (map piece_of plan.pieces)
    pub few : length plan.pieces ≤ 2 * (grown_count walk.sizes.items + length log.entries)

-- the bytes decode to no log with this client's number
abbrev pub HasNoLog : (number : ℕ) (source : List ℕ) → Type 0
HasNoLog number source = (log : Log) → LogAnswer source (Ok log) → log.client ≢ number
