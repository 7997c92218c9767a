use Rattle.std.proofs.Common.{rules, ◌≡◌, subst, ℕ, List, ◌++◌, ◌∷◌, [], length, map, refl, sym, ap, ◌∙◌, append_assoc, append-nil}
use Rattle.std.proofs.lemmas.List.{nil_from_length}
use Rattle.std.proofs.lemmas.Result.{err_from_is_err_and}
use Rattle.kfs_model.specs.Judgement.{State}
use Rattle.kfs_kept.specs.Calls.Group.{CallAndAnswer, group_bytes, kept_bytes, kept_shown}
use Rattle.kfs_kept.proofs.CallsLemmas.GroupLaws.{kept_shorter, kept_takes}
use Rattle.kfs_kept.specs.Calls.Leads.{GroupLeads}
use Rattle.kfs_kept.proofs.CallsLemmas.OneLead.{call_are_bytes, group_first, no_first, none_leads, one_lead}
use Rattle.kfs_kept.proofs.CallsLemmas.OneMore.{all_more, bytes_more, lead_more}
use Rattle.kfs_kept.proofs.calls.again.make_again.Goals as goal

pub calls-preserved : goal.calls-preserved
calls-preserved g c =
    let so_far = c.calls.invariant in
    let (done, fit, parts, led) = so_far.led in
    let kept = kept_shown c.in-Some.kept in
    let stands = kept_takes c.calls.rest.now kept c.in-Some.after.now so_far.bytes (sym c.in-Some.ensures) in
    record {
      led = (
        done ++ kept ∷ [],
        all_more done kept fit stands.fits,
        parts ∙ ap (λ (l : List ℕ). group_bytes done ++ l) stands.parts ∙ sym (append_assoc (group_bytes done) (kept_bytes kept) c.in-Some.after.now) ∙ ap (λ (l : List ℕ). l ++ c.in-Some.after.now) (sym (bytes_more done kept)),
        lead_more c.args.desk.now.state c.calls.desk.state c.make_one.new.desk.state done kept led c.in_ok-make_one.ensures.leads,
      );
      due = λ t leads.
          let first = group_first c.calls.desk.state t c.calls.rest.now kept c.in-Some.after.now so_far.bytes (sym c.in-Some.ensures) (so_far.due t leads) in
          let bytes = call_are_bytes c.calls.rest.now kept c.in-Some.after.now so_far.bytes (sym c.in-Some.ensures) in
          let same = (one_lead c.calls.desk.state first.0 c.make_one.new.desk.state kept.call kept.answer kept.answer bytes first.1 c.in_ok-make_one.ensures.leads).1 in
          subst (λ (u : State). GroupLeads u c.in-Some.after.now t) same first.2;
      opening = c.in_ok-make_one.ensures.opening ∙ so_far.opening;
      bytes = stands.rest_bytes;
    }

pub calls-smaller : goal.calls-smaller
calls-smaller g c = kept_shorter c.calls.rest.now (kept_shown c.in-Some.kept) c.in-Some.after.now c.calls.invariant.bytes (sym c.in-Some.ensures)

pub returns-then-is_empty-clause-lead : goal.returns-then-is_empty-clause-lead
returns-then-is_empty-clause-lead g c =
    let (done, fit, parts, led) = c.calls.invariant.led in
    let zero : length c.calls.rest.now ≡ 0 = search rules in
    let none : c.calls.rest.now ≡ [] = nil_from_length c.calls.rest.now zero in (
      map (λ (kept : CallAndAnswer). kept.call) done,
      record { calls = done; are = refl; fit = fit; spelled = parts ∙ ap (λ (l : List ℕ). group_bytes done ++ l) none ∙ append-nil (group_bytes done); lead = led },
    )

pub returns-then-is_empty-clause-only : goal.returns-then-is_empty-clause-only
returns-then-is_empty-clause-only g c = λ t leads.
    let zero : length c.calls.rest.now ≡ 0 = search rules in
    let none : c.calls.rest.now ≡ [] = nil_from_length c.calls.rest.now zero in
    sym (none_leads c.calls.desk.state t (subst (λ (l : List ℕ). GroupLeads c.calls.desk.state l t) none (c.calls.invariant.due t leads)))

pub make_one-requires : goal.make_one-requires
make_one-requires g c = record { bytes = call_are_bytes c.calls.rest.now (kept_shown c.in-Some.kept) c.in-Some.after.now c.calls.invariant.bytes (sym c.in-Some.ensures) }

pub returns-in_err-make_one-clause-due : goal.returns-in_err-make_one-clause-due
returns-in_err-make_one-clause-due g c = λ t leads.
    let p = err_from_is_err_and c.from_residual.result c.from_residual.ensures.1 in
    let first = group_first c.calls.desk.state t c.calls.rest.now (kept_shown c.in-Some.kept) c.in-Some.after.now c.calls.invariant.bytes (sym c.in-Some.ensures) (c.calls.invariant.due t leads) in
    rw (p.1, p.2) (c.in_err-make_one.ensures.due first.0 first.1)

pub returns-else-is_empty-clause-due : goal.returns-else-is_empty-clause-due
returns-else-is_empty-clause-due g c = λ t leads.
    let none : c.calls.rest.now ≡ [] = no_first c.calls.desk.state t c.calls.rest.now (sym c.in_default.ensures) (c.calls.invariant.due t leads) in
    let zero : length c.calls.rest.now ≡ 0 = ap length none in
    search (rules, zero)
