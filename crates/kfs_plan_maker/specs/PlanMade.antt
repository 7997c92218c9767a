-- What a plan is made for: a client's log, over a tree.
use Rattle.std.specs.Prelude.{◌≡◌, ℕ, Bool, List, IfOk, IsErr, Ok}
use Rattle.kfs_model.specs.Access.{Client}
use Rattle.kfs_model.specs.Entry.{Entry, Log}
use Rattle.kfs_model.specs.Plan.{IsRight}
use Rattle.kfs_model.specs.PlanRow.{Plan}
use Rattle.kfs_model.specs.Run.{Mark, run, over_bytes, over_marks, marked}
use Rattle.kfs_model.specs.Sight.{client_sight}
use Rattle.kfs_model.specs.Spelling.{LogAnswer, PlanAnswer}
use Rattle.kfs_model.specs.Tree.{Tree}
use Rattle.kfs_plan_maker.specs.AskedLeases.{sight_with_leases}

-- the bytes are a log of the client
pub record IsOwnLog (client : Client) (source : List ℕ) (log : Log) : Type 0 where
  pub spelled : LogAnswer source (Ok log)
  pub owner : log.client ≡ client.number

-- while the client holds every node, the entries in turn lead to these marks, and the plan is right for
-- them
pub record IsPlanOf (client : Client) (t : Tree ℕ) (entries : List Entry) (plan : Plan) : Type 0 where
  pub after : Tree Mark
  pub ran : run over_marks client (sight_with_leases t) (marked t) entries ≡ Ok after
  pub right : IsRight t after plan
  -- whatever nodes it holds, a run without a fault leads to the same
  pub only : (held : ℕ → Bool) → IfOk (run over_marks client (client_sight t held) (marked t) entries) (λ end. end ≡ after)

-- the bytes decode to a right plan, of the log's version, for the client's log
pub record IsPlanMade (client : Client) (t : Tree ℕ) (source bytes : List ℕ) : Type 0 where
  pub log : Log
  pub own : IsOwnLog client source log
  pub plan : Plan
  pub spelled : PlanAnswer bytes (Ok plan)
  pub version : plan.version ≡ log.version
  pub right : IsPlanOf client t log.entries plan

-- the bytes are no log of the client, or an entry has a fault while the client holds every node
abbrev pub HasNoPlan : Client → Tree ℕ → (source : List ℕ) → Type 0
HasNoPlan client t source = (log : Log) → IsOwnLog client source log → IsErr (run over_bytes client (sight_with_leases t) t log.entries)
