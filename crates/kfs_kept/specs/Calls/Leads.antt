-- What groups stand for: calls made one after another, from a state to a state.
use Rattle.std.specs.Prelude.{◌≡◌, ℕ, List, [], ◌∷◌, map}
use Rattle.kfs_model.specs.Judgement.{State, Reading, IsReadAs}
use Rattle.kfs_model.specs.Machine as machine
use Rattle.kfs_plan.specs.Judging.{submission_with}
use Rattle.kfs_desk.specs.History.Runs.{made}
use Rattle.kfs_call.specs.AnswerRow.{told_fields}
use Rattle.kfs_call.specs.Call.{Call, Submit, Lease, Drop, Tick, Migrate, LeaseAt, IsCall, call_bytes}
use Rattle.kfs_call.specs.Layout.{joined}
use Rattle.kfs_kept.specs.Calls.Group.{CallAndAnswer, IsGroup, group_bytes}
use Rattle.kfs_call_desk.specs.Told.{told_of}

-- what the written call asks of the machine; of a submission log and plan are what their bytes decode to
abbrev pub Asks : Call → machine.Call → Type 0
Asks (Submit client log plan) asked = (reading : Reading) × IsReadAs (submission_with client log plan) reading × (asked ≡ machine.Submit (submission_with client log plan) reading)
Asks (Lease client kind end path) asked = asked ≡ machine.Lease client path kind end
Asks (Drop client number) asked = asked ≡ machine.Drop client number
Asks (Tick moment) asked = asked ≡ machine.Tick moment
Asks (Migrate moves) asked = asked ≡ machine.Migrate moves
Asks (LeaseAt client kind end number) asked = asked ≡ machine.LeaseAt client number kind end

-- in state s these bytes are a call, it has this answer, and it leads to state t; a Yes takes the least free places
pub record Leads (s : State) (kept : CallAndAnswer) (t : State) : Type 0 where
  pub call : Call
  pub fits : IsCall call
  pub spelled : kept.call ≡ call_bytes call
  pub asked : machine.Call
  pub asks : Asks call asked
  pub answered : kept.answer ≡ joined (told_fields (told_of asked (made s asked).0))
  pub state : (made s asked).1 ≡ t

-- the calls one after another lead from state s to state t
abbrev pub LeadOn : State → List CallAndAnswer → State → Type 0
LeadOn s [] t = t ≡ s
LeadOn s (kept ∷ calls) t = (u : State) × Leads s kept u × LeadOn u calls t

-- the bytes are the group of these calls, which lead from state s to state t
pub record GroupOf (s : State) (asked : List (List ℕ)) (group : List ℕ) (t : State) : Type 0 where
  pub calls : List CallAndAnswer
  pub are : map (λ (kept : CallAndAnswer). kept.call) calls ≡ asked
  pub fit : IsGroup calls
  pub spelled : group ≡ group_bytes calls
  pub lead : LeadOn s calls t

-- the bytes are the group of some calls, which lead from state s to state t
abbrev pub GroupLeads : State → List ℕ → State → Type 0
GroupLeads s group t = (asked : List (List ℕ)) × GroupOf s asked group t

-- the groups one after another lead from state s to state t
abbrev pub GroupsLead : State → List (List ℕ) → State → Type 0
GroupsLead s [] t = t ≡ s
GroupsLead s (group ∷ groups) t = (u : State) × GroupLeads s group u × GroupsLead u groups t
