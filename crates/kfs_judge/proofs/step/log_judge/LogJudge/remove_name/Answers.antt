-- The header that is there has a link fewer, or is gone.
use Rattle.std.specs.Prelude.{[], Contains, option_and_then}
use Rattle.std.proofs.Common.{ap, sym, subst, ◌∙◌}
use Rattle.kfs_model.specs.Sight.{HeaderOf}
use Rattle.kfs_model.specs.SeenAfter.{unlinked, seen_unlinked}
use Rattle.kfs_judge.specs.Step.Entered.{headers_unlinked}
use Rattle.kfs_judge_reads.specs.Draft.Overlay.{over, without_name}
use Rattle.kfs_judge_reads.specs.Reads.{Within}
use Rattle.kfs_judge_reads.proofs.Recording.{first_is_in}
use Rattle.kfs_judge.proofs.step.log_judge.LogJudge.remove_name.Goals as goal

pub returns-clause-among : goal.returns-clause-among
returns-clause-among g c = subst (λ there. Within c.args.self.now.recorder.reads.entries c.header.new.recorder.reads.entries (headers_unlinked there)) (sym c.in-Some.is) c.in_ok-header.ensures.among

pub returns-clause-shown : goal.returns-clause-shown
returns-clause-shown g c state agrees =
    let old = over c.args.self.now.draft state.sight in
    let same = c.unlinked.ensures ∙ ap (λ o. option_and_then unlinked o) (sym (c.in_ok-header.ensures.known state agrees)) in
    c.in_ok-remove_name.ensures.shown state.sight ∙ (λ i. without_name c.args.key.now.0 c.args.key.now.1 c.in-Some.number (same i) old) ∙ ap (λ there. seen_unlinked c.args.key.now.0 c.args.key.now.1 there old) (sym c.in-Some.is)

pub returns-clause-written : goal.returns-clause-written
returns-clause-written g c among written name headers = c.in_ok-remove_name.ensures.written among written name (headers (HeaderOf c.in-Some.number) (subst (λ there. Contains (headers_unlinked there) (HeaderOf c.in-Some.number)) (sym c.in-Some.is) (first_is_in (HeaderOf c.in-Some.number) [])))
