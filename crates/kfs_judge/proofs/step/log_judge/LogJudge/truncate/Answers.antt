-- The header that is there has the other size then, and it was looked at by the checks.
use Rattle.std.specs.Prelude.{refl}
use Rattle.std.specs.Option.{option_map}
use Rattle.std.proofs.Common.{ap, sym, ◌∙◌}
use Rattle.kfs_model.specs.Header.{Header}
use Rattle.kfs_model.specs.Entry.{Truncate}
use Rattle.kfs_model.specs.SeenAfter.{put_at, seen_after}
use Rattle.kfs_judge_reads.specs.Draft.Overlay.{over}
use Rattle.kfs_judge.specs.Check.Checks.{reason_of}
use Rattle.kfs_judge.proofs.StepLemmas.CleanLooks.{truncate_looks}
use Rattle.kfs_judge_reads.proofs.Recording.{goes_then}
use Rattle.kfs_judge.proofs.StepLemmas.Entered.{is_cut_short, has_fault, header_is_set, own_file}
use Rattle.kfs_judge.proofs.step.log_judge.LogJudge.truncate.Goals as goal

pub returns-in_err-fault : goal.returns-in_err-fault
returns-in_err-fault g c = is_cut_short c.args.self.now _ (Truncate c.args.number c.args.size) c.in_err-fault.ensures.goes refl _ c.from_residual.ensures.0

pub returns-in-Some : goal.returns-in-Some
returns-in-Some g c = has_fault c.args.self.now _ (Truncate c.args.number c.args.size) c.in_ok-fault.ensures.goes refl c.in-Some.reason (λ state agrees. c.in_ok-fault.ensures.known state agrees ∙ ap (option_map reason_of) c.in-Some.is) c.in_ok-fault.ensures.among

pub returns-in_err-header : goal.returns-in_err-header
returns-in_err-header g c = is_cut_short c.args.self.now _ (Truncate c.args.number c.args.size) (goes_then c.in_ok-fault.ensures.goes c.in_err-header.ensures.goes) refl _ c.from_residual-in_err-header.ensures.0

pub returns-in_err-set_header : goal.returns-in_err-set_header
returns-in_err-set_header g c = is_cut_short c.args.self.now _ (Truncate c.args.number c.args.size) (goes_then c.in_ok-fault.ensures.goes c.in_ok-header.ensures.goes) refl _ c.from_residual-in_err-set_header.ensures.0

pub returns : goal.returns
unfolding seen_after
returns g c =
    let n = c.args.number in
    let size = c.args.size in
    let change : Header → Header = λ h. record h { size = size } in
    header_is_set c.args.self.now _ c.truncate_fault.new.recorder (Truncate n size) n c.in_ok-fault.ensures.goes c.in_ok-header.ensures.goes refl
    (λ state agrees. c.in_ok-fault.ensures.known state agrees ∙ ap (option_map reason_of) c.in_default.is)
    c.in_ok-fault.ensures.among c.in_ok-header.ensures.among (λ p. truncate_looks p n size)
    (λ state agrees.
    let old = over c.args.self.now.draft state.sight in
    let same = c.with_size.ensures ∙ ap (option_map change) (sym (c.in_ok-header.ensures.known state agrees)) in
    c.in_ok-set_header.ensures.shown state.sight ∙ λ i. record { head = put_at n (same i) old.head; name = old.name; count = old.count; parent = old.parent })
    c.in_ok-set_header.ensures.written (λ numbers are k. c.in_ok-set_header.ensures.created k ∙ are k) c.in_ok-set_header.ensures.kept (own_file c.set_header.new.self n c.in_ok-set_header.ensures.put) c.in_ok-set_header.ensures.shifts
