-- The answer to a line that asks for a plan.
use Rattle.std.proofs.Common.{◌≡◌, ℕ, List, Option, Some, None, Result, refl, sym, subst}
use Rattle.std.specs.Prelude.{OnOk, Vec, codes}
use Rattle.std.proofs.lemmas.Result.{on_ok_weaker}
use Rattle.kfs_model.specs.Access.{Client}
use Rattle.kfs_model.specs.Lease.{row_of}
use Rattle.kfs_desk.specs.Machine.{Desk}
use Rattle.kfs_program_text.specs.Command.{Plan}
use Rattle.kfs_program_text.specs.Views.{asked_of_desk}
use Rattle.kfs_program_text.specs.declared.command.DeskCommand.{DeskCommand}
use Rattle.kfs_program_text.specs.declared.command.DeskCommand.TheVariants as asked
use Rattle.kfs_program.specs.Verdicts.HeldVerdicts.{HeldVerdicts}
use Rattle.kfs_program.specs.Engine.Session.{After, DeskAnswers, DeskOutcome, IsPlanAnswered, IsReplied}
use Rattle.kfs_program.specs.Engine.PlanLine.{AppendsPlan}
use Rattle.kfs_program_text.specs.Parts.{line_of}

-- the line of a plan is the answer for its client
pub plan_served : {T E : Type 0} (result : Result T E) (desk : Desk) (row : Option Client) (client : Client) (log before after : List ℕ) → row ≡ Some client → OnOk result (AppendsPlan client desk.state.tree log before after)
    → OnOk result (IsReplied (IsPlanAnswered desk row log) before after desk)
plan_served result desk row client log before after is =
    on_ok_weaker result (λ said. subst (λ r. IsReplied (IsPlanAnswered desk r log) before after desk) (sym is) (line_of said.0, said.1, (said.0, said.2, refl)))

-- without a client it is a bad line
pub plan_refused : (desk : Desk) (hands : HeldVerdicts) (number : ℕ) (log : List ℕ) → row_of desk.state.clients number ≡ None → DeskAnswers desk hands (Plan number log) (line_of (codes "bad line"), After desk hands)
plan_refused desk hands number log none =
    let said : DeskOutcome = (line_of (codes "bad line"), desk) in
    (said, subst (λ row. IsPlanAnswered desk row log said) (sym none) refl, refl)

-- and so is the line that asks for it
pub refused_as : {A : Type 0} (desk : Desk) (hands : HeldVerdicts) (command : DeskCommand A) (number : ℕ) (log : Vec ℕ A) → command ≡ asked.Plan number log → row_of desk.state.clients number ≡ None
    → DeskAnswers desk hands (asked_of_desk command) (line_of (codes "bad line"), After desk hands)
refused_as desk hands command number log is none =
    subst (λ it. DeskAnswers desk hands (asked_of_desk it) (line_of (codes "bad line"), After desk hands)) (sym is) (plan_refused desk hands number log.items none)
