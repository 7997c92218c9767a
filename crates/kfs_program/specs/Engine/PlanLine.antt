-- The line of a plan that is made.
use Rattle.std.specs.Prelude.{◌≡◌, ◌⊎◌, ℕ, List, ◌++◌, codes}
use Rattle.hex.specs.Hex.{encode_lower}
use Rattle.kfs_model.specs.Access.{Client}
use Rattle.kfs_model.specs.Tree.{Tree}
use Rattle.kfs_program_text.specs.Parts.{line_of}
use Rattle.kfs_plan_maker.specs.PlanMade.{HasNoPlan, IsPlanMade}

-- a plan's bytes in hexadecimal
abbrev pub plan_text : (bytes : List ℕ) → List ℕ
plan_text bytes = codes "plan " ++ encode_lower bytes

-- the line says a right plan for the client's log
pub record IsPlanSaid (client : Client) (t : Tree ℕ) (source line : List ℕ) : Type 0 where
  pub bytes : List ℕ
  pub made : IsPlanMade client t source bytes
  pub is : line ≡ plan_text bytes

-- the line says that there is none
pub record IsNoPlanSaid (client : Client) (t : Tree ℕ) (source line : List ℕ) : Type 0 where
  pub none : HasNoPlan client t source
  pub is : line ≡ codes "plan none"

abbrev pub SaysPlan : Client → Tree ℕ → (source line : List ℕ) → Type 0
SaysPlan client t source line = IsPlanSaid client t source line ⊎ IsNoPlanSaid client t source line

-- such a line is appended
abbrev pub AppendsPlan : Client → Tree ℕ → (source before after : List ℕ) → Type 0
AppendsPlan client t source before after = (line : List ℕ) × (after ≡ before ++ line_of line) × SaysPlan client t source line
