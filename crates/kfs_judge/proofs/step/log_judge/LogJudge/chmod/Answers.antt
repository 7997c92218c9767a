-- The header that is there has the other mode then, and it was looked at by the checks.
use Rattle.std.specs.Prelude.{refl}
use Rattle.std.specs.Option.{option_map}
use Rattle.std.proofs.Common.{ap, sym, ◌∙◌}
use Rattle.kfs_model.specs.Header.{Header}
use Rattle.kfs_model.specs.Entry.{Chmod}
use Rattle.kfs_model.specs.SeenAfter.{put_at, seen_after}
use Rattle.kfs_judge_reads.specs.Draft.Overlay.{over}
use Rattle.kfs_judge.specs.Check.Checks.{reason_of}
use Rattle.kfs_judge.proofs.StepLemmas.CleanLooks.{chmod_looks}
use Rattle.kfs_judge_reads.proofs.Recording.{goes_then}
use Rattle.kfs_judge.proofs.StepLemmas.Entered.{is_cut_short, has_fault, header_is_set}
use Rattle.kfs_judge.proofs.step.log_judge.LogJudge.chmod.Goals as goal

pub returns-in_err-fault : goal.returns-in_err-fault
returns-in_err-fault g c = is_cut_short c.args.self.now _ (Chmod c.args.number c.args.mode) (c.in_err-fault.ensures c.args.mode).goes refl _ c.from_residual.ensures.0

pub returns-in-Some : goal.returns-in-Some
returns-in-Some g c = has_fault c.args.self.now _ (Chmod c.args.number c.args.mode) (c.in_ok-fault.ensures c.args.mode).goes refl c.in-Some.reason (λ state agrees. (c.in_ok-fault.ensures c.args.mode).known state agrees ∙ ap (option_map reason_of) c.in-Some.is) (c.in_ok-fault.ensures c.args.mode).among

pub returns-in_err-header : goal.returns-in_err-header
returns-in_err-header g c = is_cut_short c.args.self.now _ (Chmod c.args.number c.args.mode) (goes_then (c.in_ok-fault.ensures c.args.mode).goes c.in_err-header.ensures.goes) refl _ c.from_residual-in_err-header.ensures.0

pub returns-in_err-set_header : goal.returns-in_err-set_header
returns-in_err-set_header g c = is_cut_short c.args.self.now _ (Chmod c.args.number c.args.mode) (goes_then (c.in_ok-fault.ensures c.args.mode).goes c.in_ok-header.ensures.goes) refl _ c.from_residual-in_err-set_header.ensures.0

pub returns : goal.returns
unfolding seen_after
returns g c =
    let n = c.args.number in
    let mode = c.args.mode in
    let change : Header → Header = λ h. record h { mode = mode } in
    header_is_set c.args.self.now _ c.chmod_fault.new.recorder (Chmod n mode) n (c.in_ok-fault.ensures c.args.mode).goes c.in_ok-header.ensures.goes refl
    (λ state agrees. (c.in_ok-fault.ensures mode).known state agrees ∙ ap (option_map reason_of) c.in_default.is)
    (c.in_ok-fault.ensures mode).among c.in_ok-header.ensures.among (λ p. chmod_looks p n mode)
    (λ state agrees.
    let old = over c.args.self.now.draft state.sight in
    let same = c.with_mode.ensures ∙ ap (option_map change) (sym (c.in_ok-header.ensures.known state agrees)) in
    c.in_ok-set_header.ensures.shown state.sight ∙ λ i. record { head = put_at n (same i) old.head; name = old.name; count = old.count; parent = old.parent })
    c.in_ok-set_header.ensures.written (λ numbers are k. c.in_ok-set_header.ensures.created k ∙ are k) c.in_ok-set_header.ensures.kept (λ k never. cc) c.in_ok-set_header.ensures.shifts
