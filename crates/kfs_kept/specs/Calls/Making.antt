-- Calls that are made on a desk one after another, and the group that keeps them.
use Rattle.std.specs.Prelude.{◌≡◌, ℕ, List, [], ◌∷◌, ◌++◌, Result, Ok, Err}
use Rattle.kfs_model.specs.Judgement.{State}
use Rattle.kfs_desk.specs.Machine.{Desk}
use Rattle.kfs_call.specs.AnswerRow.{Told, told_fields}
use Rattle.kfs_call.specs.Layout.{joined}
use Rattle.kfs_call_desk.specs.Calls.{IsCalled, IsRefusal}
use Rattle.kfs_call_desk.specs.declared.made.Called.{Called}
use Rattle.kfs_call_desk.specs.declared.made.CallFault.{CallFault}
use Rattle.kfs_kept.specs.Calls.Group.{CallAndAnswer, IsKept, kept_bytes}
use Rattle.kfs_kept.specs.Calls.Leads.{Leads, GroupOf}
use Rattle.kfs_call_desk.specs.Told.{IsTold}

-- the calls one after another, each made on the desk that the earlier ones left: it is answered, or there is a
-- reason why not, and the desk stays
abbrev pub Runs : Desk → List (List ℕ) → List (Result Called CallFault) → Desk → Type 0
Runs desk [] [] last = last ≡ desk
Runs desk [] (answer ∷ answers) last = ⊥
Runs desk (bytes ∷ calls) [] last = ⊥
Runs desk (bytes ∷ calls) (Ok called ∷ answers) last = (next : Desk) × IsCalled bytes desk called next × Runs next calls answers last
Runs desk (bytes ∷ calls) (Err fault ∷ answers) last = IsRefusal bytes desk fault × Runs desk calls answers last

-- the call, where it has an answer
abbrev pub answered_one : List ℕ → Result Called CallFault → List (List ℕ)
answered_one bytes (Ok called) = bytes ∷ []
answered_one bytes (Err fault) = []

-- the calls that have an answer
abbrev pub answered : List (List ℕ) → List (Result Called CallFault) → List (List ℕ)
answered [] answers = []
answered (bytes ∷ calls) [] = []
answered (bytes ∷ calls) (answer ∷ answers) = answered_one bytes answer ++ answered calls answers

-- the calls are made and answered so, and the bytes are the group of those that have an answer
pub record AreMade (old : Desk) (calls : List (List ℕ)) (answers : List (Result Called CallFault)) (group : List ℕ) (new : Desk) : Type 0 where
  pub runs : Runs old calls answers new
  pub kept : GroupOf old.state (answered calls answers) group new.state

-- the bytes are what the answer says
abbrev pub IsToldIn : Called → List ℕ → Type 0
IsToldIn called bytes = (told : Told) × IsTold called told × (bytes ≡ joined (told_fields told))

-- the bytes behind the group so far are this call with its answer
pub record IsAppended (s : State) (bytes : List ℕ) (before after : List ℕ) (t : State) : Type 0 where
  pub kept : CallAndAnswer
  pub fits : IsKept kept
  pub is : kept.call ≡ bytes
  pub parts : after ≡ before ++ kept_bytes kept
  pub leads : Leads s kept t

-- the call is answered, and stands in the group then; or it isn't, and desk and group are as they were
abbrev pub IsNext : Desk → List ℕ → Result Called CallFault → (before after : List ℕ) → Desk → Type 0
IsNext old bytes (Ok called) before after new = IsCalled bytes old called new × IsAppended old.state bytes before after new.state
IsNext old bytes (Err fault) before after new = IsRefusal bytes old fault × (new ≡ old) × (after ≡ before)
