-- The first name's node moves, and the cells that change were looked at.
use Rattle.std.specs.Prelude.{[], ◌∷◌, refl}
use Rattle.std.specs.Option.{option_map}
use Rattle.std.proofs.Common.{ap, sym, subst, ◌++◌, ◌∙◌}
use Rattle.kfs_model.specs.Check.{checks_of, looked}
use Rattle.kfs_model.specs.Entry.{Rename}
use Rattle.kfs_model.specs.Sight.{NameIn}
use Rattle.kfs_model.specs.SeenAfter.{seen_after, seen_renamed}
use Rattle.kfs_judge.specs.Step.Entered.{headers_renamed}
use Rattle.kfs_judge_reads.specs.Draft.Overlay.{over, entry_context_of}
use Rattle.kfs_judge.specs.Check.Checks.{reason_of}
use Rattle.kfs_judge_reads.specs.Reads.{IsPart}
use Rattle.kfs_judge.proofs.StepLemmas.CleanLooks.{rename_looks_at_names, rename_looks_at_headers}
use Rattle.kfs_judge.proofs.CheckLemmas.Looking.{written_wider}
use Rattle.kfs_judge_reads.proofs.Recording.{goes_then, within_then, within_wider, first_is_in, left_is_part, right_is_part}
use Rattle.kfs_judge.proofs.StepLemmas.Entered.{is_cut_short, has_fault}
use Rattle.kfs_judge.proofs.step.log_judge.LogJudge.rename.Goals as goal

pub returns-in_err-fault : goal.returns-in_err-fault
returns-in_err-fault g c = is_cut_short c.args.self.now _ (Rename c.args.dir c.args.name.now c.args.new_dir c.args.new_name.now) c.in_err-fault.ensures.goes refl _ c.from_residual.ensures.0

pub returns-in-Some : goal.returns-in-Some
returns-in-Some g c = has_fault c.args.self.now _ (Rename c.args.dir c.args.name.now c.args.new_dir c.args.new_name.now) c.in_ok-fault.ensures.goes refl c.in-Some.reason (λ state agrees. c.in_ok-fault.ensures.known state agrees ∙ ap (option_map reason_of) c.in-Some.is) c.in_ok-fault.ensures.among

pub returns-in_err-from : goal.returns-in_err-from
returns-in_err-from g c = is_cut_short c.args.self.now _ (Rename c.args.dir c.args.name.now c.args.new_dir c.args.new_name.now) (goes_then c.in_ok-fault.ensures.goes c.in_err-from.ensures.goes) refl _ c.from_residual-in_err-from.ensures.0

pub returns-in_err-to : goal.returns-in_err-to
returns-in_err-to g c = is_cut_short c.args.self.now _ (Rename c.args.dir c.args.name.now c.args.new_dir c.args.new_name.now) (goes_then c.in_ok-fault.ensures.goes (goes_then c.in_ok-from.ensures.goes c.in_err-to.ensures.goes)) refl _ c.from_residual-in_err-to.ensures.0

pub returns-in_err-move_name : goal.returns-in_err-move_name
returns-in_err-move_name g c = is_cut_short c.args.self.now _ (Rename c.args.dir c.args.name.now c.args.new_dir c.args.new_name.now) (goes_then c.in_ok-fault.ensures.goes (goes_then c.in_ok-from.ensures.goes (goes_then c.in_ok-to.ensures.goes c.in_err-move_name.ensures.goes))) c.in_err-move_name.ensures.client _ c.from_residual-in_err-move_name.ensures.0

pub returns : goal.returns
unfolding seen_after
returns g c = record {
  goes = goes_then c.in_ok-fault.ensures.goes (goes_then c.in_ok-from.ensures.goes (goes_then c.in_ok-to.ensures.goes c.in_ok-move_name.ensures.goes));
  client = c.in_ok-move_name.ensures.client;
  known = λ state agrees. c.in_ok-fault.ensures.known state ((goes_then c.in_ok-from.ensures.goes (goes_then c.in_ok-to.ensures.goes c.in_ok-move_name.ensures.goes)).grows state agrees) ∙ ap (option_map reason_of) c.in_default.is;
  among = λ state agrees.
      let d = c.args.dir in
      let m = c.args.name.now in
      let e = c.args.new_dir in
      let k = c.args.new_name.now in
      let p = entry_context_of c.args.self.now.client.now c.args.self.now.draft state in
      let clean = c.in_ok-fault.ensures.known state ((goes_then c.in_ok-from.ensures.goes (goes_then c.in_ok-to.ensures.goes c.in_ok-move_name.ensures.goes)).grows state agrees) ∙ ap (option_map reason_of) c.in_default.is in
      let at_to = c.in_ok-move_name.ensures.goes.grows state agrees in
      let at_from = c.in_ok-to.ensures.goes.grows state at_to in
      let all = looked p (checks_of p (Rename d m e k)) in
      let names = rename_looks_at_names p d m e k clean in
      let headers = subst (λ cells. IsPart cells all) (λ i. headers_renamed (c.in_ok-from.ensures.known state at_from i) (c.in_ok-to.ensures.known state at_to i)) (rename_looks_at_headers p d m e k clean) in
      let first : IsPart (NameIn d m ∷ []) all = λ cell there. names cell (left_is_part (NameIn d m ∷ []) (NameIn e k ∷ []) cell there) in
      let second : IsPart (NameIn e k ∷ []) all = λ cell there. names cell (right_is_part (NameIn d m ∷ []) (NameIn e k ∷ []) cell there) in
      within_then (c.in_ok-fault.ensures.among state (c.in_ok-from.ensures.goes.grows state at_from))
      (within_then (within_wider first c.in_ok-from.ensures.among) (within_then (within_wider second c.in_ok-to.ensures.among) (within_wider headers c.in_ok-move_name.ensures.among)));
  change = λ _. record {
    shown = λ state agrees.
        let at_to = c.in_ok-move_name.ensures.goes.grows state agrees in
        let at_from = c.in_ok-to.ensures.goes.grows state at_to in
        c.in_ok-move_name.ensures.shown state agrees
        ∙ λ i. seen_renamed c.args.dir c.args.name.now c.args.new_dir c.args.new_name.now (sym (c.in_ok-from.ensures.known state at_from) i) (sym (c.in_ok-to.ensures.known state at_to) i) (over c.args.self.now.draft state.sight);
    written = λ state agrees among written.
        let d = c.args.dir in
        let m = c.args.name.now in
        let e = c.args.new_dir in
        let k = c.args.new_name.now in
        let p = entry_context_of c.args.self.now.client.now c.args.self.now.draft state in
        let clean = c.in_ok-fault.ensures.known state ((goes_then c.in_ok-from.ensures.goes (goes_then c.in_ok-to.ensures.goes c.in_ok-move_name.ensures.goes)).grows state agrees) ∙ ap (option_map reason_of) c.in_default.is in
        let at_to = c.in_ok-move_name.ensures.goes.grows state agrees in
        let at_from = c.in_ok-to.ensures.goes.grows state at_to in
        let front = looked p (checks_of p (Rename d m e k)) in
        let names = rename_looks_at_names p d m e k clean in
        let headers = subst (λ cells. IsPart cells front) (λ i. headers_renamed (c.in_ok-from.ensures.known state at_from i) (c.in_ok-to.ensures.known state at_to i)) (rename_looks_at_headers p d m e k clean) in
        c.in_ok-move_name.ensures.written (front ++ among) (written_wider c.args.self.now.draft among (front ++ among) (right_is_part front among) written)
        (left_is_part front among (NameIn d m) (names (NameIn d m) (first_is_in (NameIn d m) (NameIn e k ∷ []))))
        (left_is_part front among (NameIn e k) (names (NameIn e k) (right_is_part (NameIn d m ∷ []) (NameIn e k ∷ []) (NameIn e k) (first_is_in (NameIn e k) []))))
        (λ cell there. left_is_part front among cell (headers cell there));
    created = λ numbers are n. c.in_ok-move_name.ensures.created n ∙ are n;
    kept = c.in_ok-move_name.ensures.kept;
    reached = λ n never. cc;
    shifts = c.in_ok-move_name.ensures.shifts;
  };
}
