-- What was found of a log and a plan, as a landing takes it.
use Rattle.std.specs.Prelude.{◌≡◌, ℕ, List}
use Rattle.kfs_types.specs.declared.entry.Log.{Log}
use Rattle.kfs_types.specs.declared.plan.Plan.{Plan}
use Rattle.kfs_image_nodes.specs.Lent.{net_in}
use Rattle.kfs_plan.specs.declared.submission.Outcome.{Outcome}
use Rattle.kfs_plan.specs.declared.submission.Outcome.TheVariants as outcomes
use Rattle.kfs_desk.specs.Fill.Bytes.{entries_in}
use Rattle.kfs_desk.specs.declared.found.Found.{Found}
use Rattle.kfs_desk.specs.declared.found.Found.TheVariants as kinds
use Rattle.kfs_desk.specs.declared.found.YesParts.{YesParts}

-- the outcome, however its names are held
abbrev pub found_in : {A : Type 0} → Found A → Outcome A (List ℕ)
found_in (kinds.Borrowed outcome) = outcome.now
found_in (kinds.Kept outcome) = outcome.now

-- the outcome is a Yes, and these are what lands of it
pub record AreParts {A : Type 0} (outcome : Outcome A (List ℕ)) (parts : YesParts A) : Type 0 where
  pub log : Log A (List ℕ)
  pub plan : Plan A (List ℕ)
  pub is : outcome ≡ outcomes.Yes log plan (net_in parts.net) parts.need
  pub entries : entries_in parts.entries ≡ log.entries
  pub pieces : parts.pieces.now ≡ plan.pieces
