-- Calls of which none is answered.
use Rattle.std.proofs.Common.{◌≡◌, ℕ, List, [], ◌∷◌, map, Result, Ok, Err, ◌∙◌, subst}
use Rattle.kfs_model.specs.Judgement.{State}
use Rattle.kfs_desk.specs.Machine.{Desk}
use Rattle.kfs_call_desk.specs.declared.made.Called.{Called}
use Rattle.kfs_call_desk.specs.declared.made.CallFault.{CallFault}
use Rattle.kfs_kept.specs.Calls.Group.{CallAndAnswer, group_bytes}
use Rattle.kfs_kept.specs.Calls.Leads.{GroupOf}
use Rattle.kfs_kept.specs.Calls.Making.{AreMade, Runs, answered}
use Rattle.kfs_kept.proofs.CallsLemmas.OneLead.{none_leads}

-- the desk stays
runs_stay : (old new : Desk) (calls : List (List ℕ)) (answers : List (Result Called CallFault)) → Runs old calls answers new → answered calls answers ≡ [] → new ≡ old
runs_stay old new [] [] runs none = runs
runs_stay old new [] (answer ∷ answers) runs none = absurd runs
runs_stay old new (bytes ∷ calls) [] runs none = absurd runs
runs_stay old new (bytes ∷ calls) (Ok called ∷ answers) runs none = cc
runs_stay old new (bytes ∷ calls) (Err fault ∷ answers) runs none = runs_stay old new calls answers runs.1 none

-- no call has no bytes
pub no_bytes : (s t : State) (asked : List (List ℕ)) (group : List ℕ) → GroupOf s asked group t → asked ≡ [] → group ≡ []
no_bytes s t asked group of none = by of.calls (of.are ∙ none) of.spelled
  where
    by : (calls : List CallAndAnswer) → map (λ (k : CallAndAnswer). k.call) calls ≡ [] → group ≡ group_bytes calls → group ≡ []
    by [] are spelled = spelled
    by (first ∷ calls) are spelled = cc

module _ (old last : Desk) (calls : List (List ℕ)) (answers : List (Result Called CallFault)) (group : List ℕ) (made : AreMade old calls answers group last) where
  -- where no call is answered, the desk stays and the group has no bytes
  pub desk_stays : answered calls answers ≡ [] → last ≡ old
  desk_stays none = runs_stay old last calls answers made.runs none

  pub group_is_empty : answered calls answers ≡ [] → group ≡ []
  group_is_empty none = no_bytes old.state last.state (answered calls answers) group made.kept none

  -- and where the group has no bytes, the state stays
  pub state_stays : group ≡ [] → last.state ≡ old.state
  state_stays empty = none_leads old.state last.state (answered calls answers, subst (λ (g : List ℕ). GroupOf old.state (answered calls answers) g last.state) empty made.kept)
