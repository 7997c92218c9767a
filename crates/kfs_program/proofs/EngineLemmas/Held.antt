-- What the workers of a session hold.
use Rattle.std.proofs.Common.{◌≡◌, ◌≢◌, inl, inr, ℕ, ◌++◌, List, Option, Some, None, option_map, Result, Ok, Err, refl, sym, ap, subst, ◌∙◌}
use Rattle.std.specs.Prelude.{set, codes, decimal, IfErr, OnOk}
use Rattle.std.specs.Option.{ok_or}
use Rattle.std.proofs.lemmas.List.{set-get_or, set-set}
use Rattle.std.proofs.lemmas.Result.{on_ok_weaker}
use Rattle.kfs_model.specs.Judgement.{State, Submission}
use Rattle.kfs_model.specs.Device.ShownTree.{DeviceImage, shown_tree}
use Rattle.kfs_plan.specs.Judged.{Judged}
use Rattle.kfs_lease.specs.declared.act.Act.{Act}
use Rattle.kfs_lease.specs.declared.act.Act.TheVariants as acts
use Rattle.kfs_desk.specs.Machine.{Desk, IsImageOf, call_of, done_by}
use Rattle.kfs_program_text.specs.Command as commands
use Rattle.kfs_program_text.specs.Command.{asked_by, landing_worker}
use Rattle.kfs_program_text.specs.Views.{act_of, asked_of_desk}
use Rattle.kfs_program_text.specs.declared.command.DeskCommand.{DeskCommand}
use Rattle.kfs_program.specs.Verdicts.HeldVerdicts.{HeldVerdicts, held_by, with_held}
use Rattle.kfs_program.specs.Engine.Session.{After, Before, DeskOutcome, AnswersCommand, AnswersLine, IsCallAnswered, IsLandingAnswered, IsReplied, IsSaid, Start, AnswersJudge, AnswersLand, AnswersLoad, LineOutcome, DeskAnswers, Stage, WithHands, left_without_memory, opened, with_image}
use Rattle.kfs_program.specs.Engine.Views.{IsUndone, stage_in, start_of}
use Rattle.kfs_program.specs.declared.sessions.opening.Opening.{Opening}
use Rattle.kfs_program.specs.declared.sessions.session.Stage.{Stage as CodeStage}
use Rattle.kfs_program.specs.declared.sessions.session.Stage.TheVariants as stages
use Rattle.kfs_program.specs.Images.Loading.{AppendsLine, LoadsWith}
use Rattle.kfs_program.specs.Images.Saving.{save_text}
use Rattle.kfs_program_text.specs.Parts.{line_of}
use Rattle.kfs_desk.specs.Verdict.Verdict.{HeldVerdict, IsVerdictOn, verdict_of}

-- ---- hands

module _ (desk : Desk) (old new : HeldVerdicts) (worker : ℕ) where
  pub judged_held : (submission : Submission) (verdict : HeldVerdict) → held_by old worker ≡ None → new ≡ with_held old worker (Some verdict) → IsVerdictOn desk.state submission verdict
      → DeskAnswers desk old (commands.Judge worker submission) (line_of (codes "judged " ++ decimal worker), After desk new)
  judged_held submission verdict empty put is =
      let text = line_of (codes "judged " ++ decimal worker) in
      subst (λ hand. AnswersJudge desk old worker hand submission (text, After desk new)) (sym empty) (verdict, is, ap (λ hands. (text, After desk hands)) put)

  pub full_hand : (submission : Submission) → held_by old worker ≢ None → new ≡ old → DeskAnswers desk old (commands.Judge worker submission) (line_of (codes "bad line"), After desk new)
  full_hand submission full same = by (held_by old worker) full
    where
      by : (hand : Option HeldVerdict) → hand ≢ None → AnswersJudge desk old worker hand submission (line_of (codes "bad line"), After desk new)
      by None some = absurd (some refl)
      by (Some verdict) some = ap (λ hands. (line_of (codes "bad line"), After desk hands)) same

  pub empty_hand : held_by old worker ≡ None → new ≡ with_held old worker None → DeskAnswers desk old (commands.Land worker) (line_of (codes "bad line"), After desk new)
  empty_hand empty left =
      let text = line_of (codes "bad line") in
      let same : new ≡ old = left ∙ ap (set old worker) (sym empty) ∙ set-get_or old worker None in
      subst (λ hand. AnswersLand desk old worker hand (text, After desk new)) (sym empty) (ap (λ hands. (text, After desk hands)) same)

  pub landed : (verdict : HeldVerdict) → held_by old worker ≡ Some verdict → new ≡ with_held old worker None → (said : DeskOutcome) → IsLandingAnswered desk verdict said → DeskAnswers desk old (commands.Land worker) (said.0, After said.1 new)
  landed verdict is left said answered =
      subst (λ hand. AnswersLand desk old worker hand (said.0, After said.1 new)) (sym is) (said, answered, ap (λ hands. (said.0, After said.1 hands)) left)

-- ---- a landing

undone_same : {T E D : Type 0} (result : Result T E) (fault other : E) (next desk : D) → IfErr result (λ why. (why ≡ fault) × (next ≡ desk)) → result ≡ Err other → next ≡ desk
undone_same (Ok done) fault other next desk undone out = cc
undone_same (Err why) fault other next desk undone out = undone.1

pub taken_as : {A E : Type 0} (fault : E) (taken : Option (Judged A)) (judged : Judged A) (hand : Option HeldVerdict) → ok_or taken fault ≡ Ok judged → option_map verdict_of taken ≡ hand → hand ≡ Some (verdict_of judged)
taken_as fault None judged hand is shown = cc
taken_as fault (Some other) judged hand is shown =
    let same : other ≡ judged = cc in
    sym shown ∙ ap (λ it. Some (verdict_of it)) same

-- where memory runs out, the verdict is gone
pub landing_undone : {T E : Type 0} (result : Result T E) (desk next : Desk) (old new : HeldVerdicts) (worker : ℕ) (fault other : E) → new ≡ with_held old worker None → IfErr result (λ why. (why ≡ fault) × (next ≡ desk)) → result ≡ Err other
    → After next new ≡ left_without_memory (Some worker) (After desk old)
landing_undone result desk next old new worker fault other left undone out = ap (λ d. After d new) (undone_same result fault other next desk undone out) ∙ ap (After desk) left

module _ {A T E : Type 0} (result : Result T E) (desk : Desk) (old new : HeldVerdicts) (worker : ℕ) (judged : Judged A) (is : held_by old worker ≡ Some (verdict_of judged)) (left : new ≡ with_held old worker None) where
  pub landed_as : (before after : List ℕ) (next : Desk) → OnOk result (IsReplied (IsLandingAnswered desk (verdict_of judged)) before after next) → OnOk result (IsReplied (DeskAnswers desk old (commands.Land worker)) before after (After next new))
  landed_as before after next = on_ok_weaker result (λ said. (said.0, said.1, landed desk old new worker (verdict_of judged) is left (said.0, next) said.2))

-- ---- what the desk answers, where the workers hold what they held

pub with_hands : {T E : Type 0} (result : Result T E) (hands : HeldVerdicts) (Holds : DeskOutcome → Type 0) (before after : List ℕ) (desk : Desk) → OnOk result (IsReplied Holds before after desk) → OnOk result (IsReplied (WithHands hands Holds) before after (After desk hands))
with_hands result hands Holds before after desk = on_ok_weaker result (λ is. (is.0, is.1, ((is.0, desk), is.2, refl)))

-- a call for the leases
pub act_served : {T E : Type 0} (result : Result T E) (desk : Desk) (hands : HeldVerdicts) (act : Act) (before after : List ℕ) (next : Desk) → OnOk result (IsReplied (IsCallAnswered desk (call_of act) (done_by act)) before after next)
    → OnOk result (IsReplied (DeskAnswers desk hands (act_of act)) before after (After next hands))
act_served result desk hands (acts.Lease client path kind end) before after next is = with_hands result hands _ before after next is
act_served result desk hands (acts.Drop client number) before after next is = with_hands result hands _ before after next is
act_served result desk hands (acts.LeaseAt client number kind end) before after next is = with_hands result hands _ before after next is
act_served result desk hands (acts.Tick moment) before after next is = with_hands result hands _ before after next is

-- this line of the desk
pub said_with_hands : (hands : HeldVerdicts) (text : List ℕ) (before after : List ℕ) (desk : Desk) → after ≡ before ++ line_of text → IsReplied (WithHands hands (IsSaid text desk)) before after (After desk hands)
said_with_hands hands text before after desk is = (line_of text, is, ((line_of text, desk), refl, refl))

-- an image of a state is saved as the state is
saved_of : (image : DeviceImage) (s : State) → IsImageOf image s → save_text image.sizes (shown_tree image) image.placement ≡ save_text s.sizes s.tree s.placement
saved_of image s is =
    ap (λ sizes. save_text sizes (shown_tree image) image.placement) is.sizes
    ∙ ap (λ tree. save_text s.sizes tree image.placement) is.tree
    ∙ ap (save_text s.sizes s.tree) is.placement

pub saved_line : (image : DeviceImage) (s : State) (before after : List ℕ) → IsImageOf image s → after ≡ before ++ line_of (save_text image.sizes (shown_tree image) image.placement) → after ≡ before ++ line_of (save_text s.sizes s.tree s.placement)
saved_line image s before after is added = added ∙ ap (λ text. before ++ line_of text) (saved_of image s is)

-- of this command, which the line's is
pub replied_as : {A : Type 0} (desk : Desk) (hands : HeldVerdicts) (command known : DeskCommand A) (before after : List ℕ) (stage : Stage) → command ≡ known → IsReplied (DeskAnswers desk hands (asked_of_desk known)) before after stage → IsReplied (DeskAnswers desk hands (asked_of_desk command)) before after stage
replied_as desk hands command known before after stage is = subst (λ it. IsReplied (DeskAnswers desk hands (asked_of_desk it)) before after stage) (sym is)

-- ---- what is given up where memory runs out

given_up_once : (landing : Option ℕ) (s : Stage) → left_without_memory landing (left_without_memory landing s) ≡ left_without_memory landing s
given_up_once None s = refl
given_up_once (Some worker) (Before start) = refl
given_up_once (Some worker) (After desk hands) = ap (After desk) (set-set hands worker None None)

-- given up at last, if it wasn't before
given_up_last : (asked : Option commands.Command) (before mid last : Stage) → IsUndone asked before mid → last ≡ left_without_memory (landing_worker asked) mid → last ≡ left_without_memory (landing_worker asked) before
given_up_last asked before mid last (inl same) is = is ∙ ap (left_without_memory (landing_worker asked)) same
given_up_last asked before mid last (inr gone) is = is ∙ ap (left_without_memory (landing_worker asked)) gone ∙ given_up_once (landing_worker asked) before

-- so the line is answered, as one for which memory runs out
pub without_memory : (before mid last : Stage) (line : List ℕ) → IsUndone (asked_by line) before mid → last ≡ left_without_memory (landing_worker (asked_by line)) mid → AnswersLine before line (line_of (codes "memory"), last)
without_memory before mid last line undone is = inr (inr (ap (λ s. (line_of (codes "memory"), s)) (given_up_last (asked_by line) before mid last undone is)))

-- ---- before the beginning

pub opened_at : {A : Type 0} (stage : CodeStage A) (opening : Opening A) (command : commands.OpeningCommand) (outcome : LineOutcome) → stage ≡ stages.Before opening → opened (start_of opening) command ≡ outcome → AnswersCommand (stage_in stage) (commands.Setup command) outcome
opened_at stage opening command outcome is opens = subst (λ it. AnswersCommand (stage_in it) (commands.Setup command) outcome) (sym is) (sym opens)

-- what is said of an image in bytes is its answer
pub image_answered : (start next : Start) (bytes before after : List ℕ) (image : Option DeviceImage) → AppendsLine before after (LoadsWith bytes image) → next ≡ with_image start image → IsReplied (AnswersLoad start bytes) before after (Before next)
image_answered start next bytes before after image said is = (line_of said.0, said.1, (image, said.0, said.2, ap (λ s. (line_of said.0, Before s)) is))

pub loaded_at : {A : Type 0} (stage : CodeStage A) (opening : Opening A) (bytes : List ℕ) (outcome : LineOutcome) → stage ≡ stages.Before opening → AnswersLoad (start_of opening) bytes outcome → AnswersCommand (stage_in stage) (commands.Load bytes) outcome
loaded_at stage opening bytes outcome is loads = subst (λ it. AnswersCommand (stage_in it) (commands.Load bytes) outcome) (sym is) loads
