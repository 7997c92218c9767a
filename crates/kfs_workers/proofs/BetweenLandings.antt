-- Between two landings of a script nothing changes but where blocks lie.
use Rattle.std.proofs.Common.{◌≡◌, ◌↔◌, ℕ, List, [], ◌∷◌, ◌⊎◌, inl, inr, Option, Some, None, refl, sym, ap, subst}
use Rattle.std.specs.List.{AllByRecursion}
use Rattle.kfs_model.specs.Judgement.{State, Submission}
use Rattle.kfs_model.specs.Machine.{Call, CallAnswer, Migrate, Done, NotDone, Replied}
use Rattle.kfs_model.specs.Means.{DiffersInPlacement, MeansOf}
use Rattle.kfs_model.specs.Migration.{Move}
use Rattle.kfs_model.proofs.RowsMean.{row_means}
use Rattle.kfs_desk.specs.Machine.{Desk}
use Rattle.kfs_desk.specs.Verdict.Verdict.{HeldVerdict, IsUpToDate}
use Rattle.kfs_workers.specs.Claims.{HaveSameVerdicts, LandsNothing}
use Rattle.kfs_workers.specs.Script.{Holding, Taken, Decided, ScriptState, DoesStep, DoesLook, DoesJudge, DoesSteps}
use Rattle.kfs_workers.specs.declared.script.Step.{Step}
use Rattle.kfs_workers.specs.declared.script.Step.TheVariants as steps

stays : (s t : State) → t ≡ s → DiffersInPlacement s t
stays s t is = (s.placement, is)

moves_mean : (s t : State) (moves : List Move) (answer : CallAnswer) → MeansOf s (Migrate moves) answer t → DiffersInPlacement s t
moves_mean s t moves (Replied reply) means = absurd means
moves_mean s t moves (Done count) means = means
moves_mean s t moves (NotDone fault) means = stays s t means

looks : (state next : ScriptState) (worker ticket : ℕ) (hand : Option (Option Holding)) (waits : Option Submission) → DoesLook state worker ticket hand waits next → next.desk ≡ state.desk
looks state next worker ticket None waits is = ap (λ (s : ScriptState). s.desk) is
looks state next worker ticket (Some (Some held)) waits is = ap (λ (s : ScriptState). s.desk) is
looks state next worker ticket (Some None) None is = ap (λ (s : ScriptState). s.desk) is
looks state next worker ticket (Some None) (Some submission) (inl is) = ap (λ (s : ScriptState). s.desk) is
looks state next worker ticket (Some None) (Some submission) (inr is) = ap (λ (s : ScriptState). s.desk) is

judges : (state next : ScriptState) (worker : ℕ) (hand : Option Holding) → DoesJudge state worker hand next → next.desk ≡ state.desk
judges state next worker None is = ap (λ (s : ScriptState). s.desk) is
judges state next worker (Some (Decided ticket verdict)) is = ap (λ (s : ScriptState). s.desk) is
judges state next worker (Some (Taken ticket submission seen)) (inl (verdict, on, is)) = ap (λ (s : ScriptState). s.desk) is
judges state next worker (Some (Taken ticket submission seen)) (inr is) = ap (λ (s : ScriptState). s.desk) is

step_differs : (state next : ScriptState) (step : Step) → LandsNothing step → DoesStep state step next → DiffersInPlacement state.desk.state next.desk.state
step_differs state next (steps.Look worker ticket) quiet is = stays _ _ (ap (λ (desk : Desk). desk.state) (looks state next worker ticket _ _ is))
step_differs state next (steps.Judge worker) quiet is = stays _ _ (ap (λ (desk : Desk). desk.state) (judges state next worker _ is))
step_differs state next (steps.Land worker) quiet is = absurd quiet
step_differs state next (steps.Act act) quiet is = absurd quiet
step_differs state next (steps.Migrate moves) quiet (inl asked) =
    let s = state.desk.state in
    let t = next.desk.state in
    let row = asked.acted.row in
    let step = asked.acted.step in
    moves_mean s t moves.now row.answer (subst (λ (call : Call). MeansOf s call row.answer t) step.asked (row_means s t row step.read step.fits))
step_differs state next (steps.Migrate moves) quiet (inr is) = stays _ _ (ap (λ (s : ScriptState). s.desk.state) is)

-- what a verdict rests on has no places of blocks
verdict_stays : (s t : State) → DiffersInPlacement s t → (verdict : HeldVerdict) → IsUpToDate s verdict ↔ IsUpToDate t verdict
verdict_stays s t (placement, is) verdict = (
  λ current. subst (λ (u : State). IsUpToDate u verdict) (sym is) (record { row = current.row; answers = current.answers }),
  λ current. let same = subst (λ (u : State). IsUpToDate u verdict) is current in record { row = same.row; answers = same.answers },
)

pub steps_leave_verdicts : (state last : ScriptState) (script : List Step) → AllByRecursion LandsNothing script → DoesSteps state script last → HaveSameVerdicts state last
steps_leave_verdicts state last [] quiet is = λ verdict. subst (λ (it : ScriptState). IsUpToDate state.desk.state verdict ↔ IsUpToDate it.desk.state verdict) (sym is) (λ current. current, λ current. current)
steps_leave_verdicts state last (step ∷ script) quiet (next, does, runs) = λ verdict.
    let first = verdict_stays state.desk.state next.desk.state (step_differs state next step quiet.0 does) verdict in
    let later = steps_leave_verdicts next last script quiet.1 runs verdict in
    (λ current. later.0 (first.0 current), λ current. first.1 (later.1 current))
