-- The header that is there has a link more, for which there was room, and its cells were looked at.
use Rattle.std.specs.Prelude.{[], ◌∷◌, nat_lt, refl}
use Rattle.std.specs.Option.{option_map}
use Rattle.std.proofs.Common.{ap, sym, ◌+◌, ◌++◌, ◌∙◌, arith}
use Rattle.kfs_model.specs.Header.{Header}
use Rattle.kfs_model.specs.Limits.{link_limit}
use Rattle.kfs_model.specs.Check.{checks_of, looked, is_some_and}
use Rattle.kfs_model.specs.Entry.{Link}
use Rattle.kfs_model.specs.Sight.{NameIn, HeaderOf}
use Rattle.kfs_model.specs.SeenAfter.{seen_after}
use Rattle.kfs_judge_reads.specs.Draft.Overlay.{over, entry_context_of, with_name}
use Rattle.kfs_judge.specs.Check.Checks.{reason_of}
use Rattle.kfs_judge.proofs.StepLemmas.CleanLooks.{link_looks, link_has_room}
use Rattle.kfs_judge.proofs.CheckLemmas.Looking.{written_wider}
use Rattle.kfs_judge_reads.proofs.DraftLemmas.Overlays.{shifts_wider}
use Rattle.kfs_judge_reads.proofs.Recording.{goes_then, within_then, within_wider, first_is_in, left_is_part, right_is_part}
use Rattle.kfs_judge.proofs.StepLemmas.Entered.{is_cut_short, has_fault}
use Rattle.kfs_judge.proofs.step.log_judge.LogJudge.link.Goals as goal

pub returns-in_err-fault : goal.returns-in_err-fault
returns-in_err-fault g c = is_cut_short c.args.self.now _ (Link c.args.number c.args.dir c.args.name.now) c.in_err-fault.ensures.goes refl _ c.from_residual.ensures.0

pub returns-in-Some : goal.returns-in-Some
returns-in-Some g c = has_fault c.args.self.now _ (Link c.args.number c.args.dir c.args.name.now) c.in_ok-fault.ensures.goes refl c.in-Some.reason (λ state agrees. c.in_ok-fault.ensures.known state agrees ∙ ap (option_map reason_of) c.in-Some.is) c.in_ok-fault.ensures.among

pub returns-in_err-header : goal.returns-in_err-header
returns-in_err-header g c = is_cut_short c.args.self.now _ (Link c.args.number c.args.dir c.args.name.now) (goes_then c.in_ok-fault.ensures.goes c.in_err-header.ensures.goes) refl _ c.from_residual-in_err-header.ensures.0

pub returns-in_err-add_name : goal.returns-in_err-add_name
returns-in_err-add_name g c = is_cut_short c.args.self.now _ (Link c.args.number c.args.dir c.args.name.now) (goes_then c.in_ok-fault.ensures.goes c.in_ok-header.ensures.goes) refl _ c.from_residual-in_err-add_name.ensures.0

pub returns : goal.returns
unfolding seen_after
returns g c = record {
  goes = goes_then c.in_ok-fault.ensures.goes c.in_ok-header.ensures.goes;
  client = refl;
  known = λ state agrees. c.in_ok-fault.ensures.known state (c.in_ok-header.ensures.goes.grows state agrees) ∙ ap (option_map reason_of) c.in_default.is;
  among = λ state agrees.
      let p = entry_context_of c.args.self.now.client.now c.args.self.now.draft state in
      let looks = link_looks p c.args.number c.args.dir c.args.name.now (c.in_ok-fault.ensures.known state (c.in_ok-header.ensures.goes.grows state agrees) ∙ ap (option_map reason_of) c.in_default.is) in
      within_then (c.in_ok-fault.ensures.among state (c.in_ok-header.ensures.goes.grows state agrees))
      (within_wider (λ cell there. looks cell (right_is_part (NameIn c.args.dir c.args.name.now ∷ []) (HeaderOf c.args.number ∷ []) cell there)) c.in_ok-header.ensures.among);
  change = λ _. record {
    shown = λ state agrees.
        let old = over c.args.self.now.draft state.sight in
        let p = entry_context_of c.args.self.now.client.now c.args.self.now.draft state in
        let change : Header → Header = λ h. record h { links = h.links + 1 } in
        let known = c.in_ok-header.ensures.known state agrees in
        let room = link_has_room p c.args.number c.args.dir c.args.name.now (c.in_ok-fault.ensures.known state (c.in_ok-header.ensures.goes.grows state agrees) ∙ ap (option_map reason_of) c.in_default.is) in
        let same = c.linked.ensures.linked (ap (λ o. is_some_and o (λ h. nat_lt h.links link_limit)) (sym known) ∙ room) ∙ ap (option_map change) (sym known) in
        c.in_ok-add_name.ensures.shown state.sight ∙ λ i. with_name c.args.dir c.args.name.now c.args.number (same i) old;
    written = λ state agrees among written.
        let p = entry_context_of c.args.self.now.client.now c.args.self.now.draft state in
        let front = looked p (checks_of p (Link c.args.number c.args.dir c.args.name.now)) in
        let looks = link_looks p c.args.number c.args.dir c.args.name.now (c.in_ok-fault.ensures.known state (c.in_ok-header.ensures.goes.grows state agrees) ∙ ap (option_map reason_of) c.in_default.is) in
        let name = NameIn c.args.dir c.args.name.now in
        let header = HeaderOf c.args.number in
        c.in_ok-add_name.ensures.written (front ++ among) (written_wider c.args.self.now.draft among (front ++ among) (right_is_part front among) written)
        (left_is_part front among name (looks name (first_is_in name (header ∷ []))))
        (left_is_part front among header (looks header (right_is_part (name ∷ []) (header ∷ []) header (first_is_in header []))));
    created = λ numbers are n. c.in_ok-add_name.ensures.created n ∙ are n;
    kept = c.in_ok-add_name.ensures.kept;
    reached = λ n never. cc;
    shifts = λ most bound. shifts_wider c.add_name.new.self (most + 1) (most + 3) (omega arith) (c.in_ok-add_name.ensures.shifts most bound);
  };
}

pub add_name-requires : goal.add_name-requires
add_name-requires g c = shifts_wider c.args.self.now.draft 2147483644 2147483646 (omega arith) c.requires
