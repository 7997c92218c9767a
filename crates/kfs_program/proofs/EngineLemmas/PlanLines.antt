-- The line of a plan, and the one that says that there is none.
use Rattle.std.proofs.Common.{◌≡◌, inl, inr, ℕ, List, ◌++◌, refl, ap, ◌∙◌}
use Rattle.std.specs.Prelude.{codes}
use Rattle.kfs_model.specs.Access.{Client}
use Rattle.kfs_model.specs.Tree.{Tree}
use Rattle.kfs_program_text.specs.Parts.{line_of}
use Rattle.kfs_program.specs.Engine.PlanLine.{AppendsPlan, plan_text}
use Rattle.kfs_plan_maker.specs.PlanMade.{HasNoPlan, IsPlanMade}

pub plan_said : (client : Client) (t : Tree ℕ) (source before after bytes written : List ℕ) → written ≡ bytes → IsPlanMade client t source bytes → after ≡ before ++ line_of (plan_text written) → AppendsPlan client t source before after
plan_said client t source before after bytes written same made added =
    (plan_text bytes, added ∙ ap (λ b. before ++ line_of (plan_text b)) same, inl (record { bytes = bytes; made = made; is = refl }))

pub none_said : (client : Client) (t : Tree ℕ) (source before after : List ℕ) → HasNoPlan client t source → after ≡ before ++ line_of (codes "plan none") → AppendsPlan client t source before after
none_said client t source before after none added = (codes "plan none", added, inr (record { none = none; is = refl }))
