-- What the name leads to loses it, and its cells were looked at.
use Rattle.std.specs.Prelude.{[], refl}
use Rattle.std.specs.Option.{option_map}
use Rattle.std.proofs.Common.{ap, sym, subst, ◌+◌, ◌++◌, ◌∙◌, arith}
use Rattle.kfs_model.specs.Check.{checks_of, looked}
use Rattle.kfs_model.specs.Entry.{Unlink}
use Rattle.kfs_model.specs.Sight.{NameIn}
use Rattle.kfs_model.specs.SeenAfter.{seen_after, seen_unlinked}
use Rattle.kfs_types.specs.Views.{kind_of}
use Rattle.kfs_judge.specs.Step.Entered.{headers_unlinked}
use Rattle.kfs_judge_reads.specs.Draft.Overlay.{over, entry_context_of}
use Rattle.kfs_judge.specs.Check.Checks.{reason_of}
use Rattle.kfs_judge_reads.specs.Reads.{IsPart}
use Rattle.kfs_judge.proofs.StepLemmas.CleanLooks.{unlink_looks_at_name, unlink_looks_at_header}
use Rattle.kfs_judge.proofs.CheckLemmas.Looking.{written_wider}
use Rattle.kfs_judge_reads.proofs.DraftLemmas.Overlays.{shifts_wider}
use Rattle.kfs_judge_reads.proofs.Recording.{goes_then, within_then, within_wider, first_is_in, left_is_part, right_is_part}
use Rattle.kfs_judge.proofs.StepLemmas.Entered.{is_cut_short, has_fault}
use Rattle.kfs_judge.proofs.step.log_judge.LogJudge.unlink.Goals as goal

pub remove_name-requires : goal.remove_name-requires
remove_name-requires g c = shifts_wider c.args.self.now.draft 2147483644 2147483646 (omega arith) c.requires

pub returns-in_err-fault : goal.returns-in_err-fault
returns-in_err-fault g c = is_cut_short c.args.self.now _ (Unlink c.args.dir c.args.name.now (kind_of c.args.kind)) c.in_err-fault.ensures.goes refl _ c.from_residual.ensures.0

pub returns-in-Some : goal.returns-in-Some
returns-in-Some g c = has_fault c.args.self.now _ (Unlink c.args.dir c.args.name.now (kind_of c.args.kind)) c.in_ok-fault.ensures.goes refl c.in-Some.reason (λ state agrees. c.in_ok-fault.ensures.known state agrees ∙ ap (option_map reason_of) c.in-Some.is) c.in_ok-fault.ensures.among

pub returns-in_err-there : goal.returns-in_err-there
returns-in_err-there g c = is_cut_short c.args.self.now _ (Unlink c.args.dir c.args.name.now (kind_of c.args.kind)) (goes_then c.in_ok-fault.ensures.goes c.in_err-there.ensures.goes) refl _ c.from_residual-in_err-there.ensures.0

pub returns-in_err-remove_name : goal.returns-in_err-remove_name
returns-in_err-remove_name g c = is_cut_short c.args.self.now _ (Unlink c.args.dir c.args.name.now (kind_of c.args.kind)) (goes_then c.in_ok-fault.ensures.goes (goes_then c.in_ok-there.ensures.goes c.in_err-remove_name.ensures.goes)) c.in_err-remove_name.ensures.client _ c.from_residual-in_err-remove_name.ensures.0

pub returns : goal.returns
unfolding seen_after
returns g c = record {
  goes = goes_then c.in_ok-fault.ensures.goes (goes_then c.in_ok-there.ensures.goes c.in_ok-remove_name.ensures.goes);
  client = c.in_ok-remove_name.ensures.client;
  known = λ state agrees. c.in_ok-fault.ensures.known state (c.in_ok-there.ensures.goes.grows state (c.in_ok-remove_name.ensures.goes.grows state agrees)) ∙ ap (option_map reason_of) c.in_default.is;
  among = λ state agrees.
      let d = c.args.dir in
      let m = c.args.name.now in
      let kind = kind_of c.args.kind in
      let p = entry_context_of c.args.self.now.client.now c.args.self.now.draft state in
      let clean = c.in_ok-fault.ensures.known state (c.in_ok-there.ensures.goes.grows state (c.in_ok-remove_name.ensures.goes.grows state agrees)) ∙ ap (option_map reason_of) c.in_default.is in
      let named = c.in_ok-remove_name.ensures.goes.grows state agrees in
      let before = c.in_ok-there.ensures.goes.grows state named in
      let headers = subst (λ there. IsPart (headers_unlinked there) (looked p (checks_of p (Unlink d m kind)))) (c.in_ok-there.ensures.known state named) (unlink_looks_at_header p d m kind clean) in
      within_then (c.in_ok-fault.ensures.among state before)
      (within_then (within_wider (unlink_looks_at_name p d m kind clean) c.in_ok-there.ensures.among) (within_wider headers c.in_ok-remove_name.ensures.among));
  change = λ _. record {
    shown = λ state agrees.
        let named = c.in_ok-remove_name.ensures.goes.grows state agrees in
        c.in_ok-remove_name.ensures.shown state agrees ∙ ap (λ there. seen_unlinked c.args.dir c.args.name.now there (over c.args.self.now.draft state.sight)) (sym (c.in_ok-there.ensures.known state named));
    written = λ state agrees among written.
        let d = c.args.dir in
        let m = c.args.name.now in
        let kind = kind_of c.args.kind in
        let p = entry_context_of c.args.self.now.client.now c.args.self.now.draft state in
        let clean = c.in_ok-fault.ensures.known state (c.in_ok-there.ensures.goes.grows state (c.in_ok-remove_name.ensures.goes.grows state agrees)) ∙ ap (option_map reason_of) c.in_default.is in
        let named = c.in_ok-remove_name.ensures.goes.grows state agrees in
        let front = looked p (checks_of p (Unlink d m kind)) in
        let headers = subst (λ there. IsPart (headers_unlinked there) front) (c.in_ok-there.ensures.known state named) (unlink_looks_at_header p d m kind clean) in
        c.in_ok-remove_name.ensures.written (front ++ among) (written_wider c.args.self.now.draft among (front ++ among) (right_is_part front among) written)
        (left_is_part front among (NameIn d m) (unlink_looks_at_name p d m kind clean (NameIn d m) (first_is_in (NameIn d m) [])))
        (λ cell there. left_is_part front among cell (headers cell there));
    created = λ numbers are n. c.in_ok-remove_name.ensures.created n ∙ are n;
    kept = c.in_ok-remove_name.ensures.kept;
    reached = λ n never. cc;
    shifts = λ most bound. shifts_wider c.remove_name.new.self.draft (most + 1) (most + 3) (omega arith) (c.in_ok-remove_name.ensures.shifts most bound);
  };
}
