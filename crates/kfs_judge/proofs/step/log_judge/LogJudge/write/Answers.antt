-- The header that is there has the size after the write then, and it was looked at by the checks.
use Rattle.std.specs.Prelude.{◌≡◌, None, refl}
use Rattle.std.specs.Option.{option_map}
use Rattle.std.proofs.Common.{ap, sym, ◌∙◌, arith}
use Rattle.kfs_model.specs.Header.{Header}
use Rattle.kfs_model.specs.Check.{first_fault}
use Rattle.kfs_model.specs.Entry.{Write}
use Rattle.kfs_model.specs.SeenAfter.{put_at, seen_after, written_size}
use Rattle.kfs_judge_reads.specs.Draft.Overlay.{over}
use Rattle.kfs_judge.specs.Check.Checks.{reason_of}
use Rattle.kfs_judge.specs.Step.Entered.{next_context}
use Rattle.kfs_judge.proofs.StepLemmas.CleanLooks.{write_fits, write_looks}
use Rattle.kfs_judge_reads.specs.Recorders.{Known}
use Rattle.kfs_judge_reads.proofs.Recording.{goes_then}
use Rattle.kfs_judge.proofs.StepLemmas.Entered.{is_cut_short, has_fault, header_is_set, own_file}
use Rattle.kfs_judge.proofs.step.log_judge.LogJudge.write.Goals as goal

pub returns-in_err-fault : goal.returns-in_err-fault
returns-in_err-fault g c payload long = is_cut_short c.args.self.now _ (Write c.args.number c.args.offset payload) (c.in_err-fault.ensures payload long).goes refl _ c.from_residual.ensures.0

pub returns-in-Some : goal.returns-in-Some
returns-in-Some g c payload long =
    has_fault c.args.self.now _ (Write c.args.number c.args.offset payload) (c.in_ok-fault.ensures payload long).goes refl c.in-Some.reason (λ state agrees. (c.in_ok-fault.ensures payload long).known state agrees ∙ ap (option_map reason_of) c.in-Some.is) (c.in_ok-fault.ensures payload long).among

pub returns-in_err-header : goal.returns-in_err-header
returns-in_err-header g c payload long = is_cut_short c.args.self.now _ (Write c.args.number c.args.offset payload) (goes_then (c.in_ok-fault.ensures payload long).goes c.in_err-header.ensures.goes) refl _ c.from_residual-in_err-header.ensures.0

pub returns-in_err-set_header : goal.returns-in_err-set_header
returns-in_err-set_header g c payload long = is_cut_short c.args.self.now _ (Write c.args.number c.args.offset payload) (goes_then (c.in_ok-fault.ensures payload long).goes c.in_ok-header.ensures.goes) refl _ c.from_residual-in_err-set_header.ensures.0

pub returns : goal.returns
unfolding seen_after
returns g c payload long =
    let n = c.args.number in
    let offset = c.args.offset in
    let change : Header → Header = λ h. record h { size = written_size offset payload h.size } in
    let clean : Known c.write_fault.new.recorder (λ before. first_fault (next_context c.args.self.now before) (Write n offset payload) ≡ None) = λ state agrees. (c.in_ok-fault.ensures payload long).known state agrees ∙ ap (option_map reason_of) c.in_default.is in
    header_is_set c.args.self.now _ c.write_fault.new.recorder (Write n offset payload) n (c.in_ok-fault.ensures payload long).goes c.in_ok-header.ensures.goes refl
    clean (c.in_ok-fault.ensures payload long).among c.in_ok-header.ensures.among (λ p. write_looks p n offset payload)
    (λ state agrees.
    let old = over c.args.self.now.draft state.sight in
    let fits = write_fits (next_context c.args.self.now state) n offset payload (omega (arith, c.ranges.offset.fits)) (clean state (c.in_ok-header.ensures.goes.grows state agrees)) in
    let same = c.written.ensures payload long fits ∙ ap (option_map change) (sym (c.in_ok-header.ensures.known state agrees)) in
    c.in_ok-set_header.ensures.shown state.sight ∙ λ i. record { head = put_at n (same i) old.head; name = old.name; count = old.count; parent = old.parent })
    c.in_ok-set_header.ensures.written (λ numbers are k. c.in_ok-set_header.ensures.created k ∙ are k) c.in_ok-set_header.ensures.kept (own_file c.set_header.new.self n c.in_ok-set_header.ensures.put) c.in_ok-set_header.ensures.shifts
