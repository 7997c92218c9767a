use Rattle.std.proofs.Common.{refl, sym, ap, subst, ◌∙◌}
use Rattle.std.proofs.lemmas.Result.{err_from_is_err_and}
use Rattle.kfs_model.specs.Judgement.{State}
use Rattle.kfs_journal.specs.Journal.{groups_of}
use Rattle.kfs_kept.specs.Calls.Leads.{GroupsLead}
use Rattle.kfs_kept.proofs.Meant.{found_leads, found_stand}
use Rattle.kfs_kept.proofs.opening.find.Goals as goal

pub returns-in_err-desk-clause-due : goal.returns-in_err-desk-clause-due
returns-in_err-desk-clause-due g c = λ s stand.
    let p = err_from_is_err_and c.from_residual-in_err-desk.result c.from_residual-in_err-desk.ensures.1 in
    let leads = found_leads _ _ _ _ _ s c.in_ok-opened.ensures.found c.deref.ensures.value refl stand in
    rw (p.1, p.2) (c.in_err-desk.ensures.due leads.0 leads.1)

pub returns-in_err-make_groups-clause-due : goal.returns-in_err-make_groups-clause-due
returns-in_err-make_groups-clause-due g c = λ s stand.
    let p = err_from_is_err_and c.from_residual-in_err-make_groups.result c.from_residual-in_err-make_groups.ensures.1 in
    let leads = found_leads _ _ _ _ _ s c.in_ok-opened.ensures.found c.deref.ensures.value (ap groups_of c.deref-2.ensures.value) stand in
    let lead = subst (λ (first : State). GroupsLead first (groups_of c.deref-2.result.now) s) (sym (c.in_ok-desk.ensures.only leads.0 leads.1)) leads.2 in
    rw (p.1, p.2) (c.in_err-make_groups.ensures.due s lead)

pub returns-clause-stand : goal.returns-clause-stand
returns-clause-stand g c =
    found_stand _ _ _ _ _ _ _ (c.in_ok-opened.ensures.same ∙ c.in_ok-opened.ensures.found) c.deref.ensures.value (ap groups_of c.deref-2.ensures.value) c.in_ok-desk.ensures.restored c.in_ok-make_groups.ensures.lead

pub returns-clause-only : goal.returns-clause-only
returns-clause-only g c = λ s stand.
    let leads = found_leads _ _ _ _ _ s c.in_ok-opened.ensures.found c.deref.ensures.value (ap groups_of c.deref-2.ensures.value) stand in
    let lead = subst (λ (first : State). GroupsLead first (groups_of c.deref-2.result.now) s) (sym (c.in_ok-desk.ensures.only leads.0 leads.1)) leads.2 in
    c.in_ok-make_groups.ensures.only s lead
