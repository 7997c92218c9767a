use Rattle.std.proofs.Common.{rules, ◌≡◌, drop, subst}
use Rattle.kfs_call_desk.specs.Calls.{IsRefusal}
use Rattle.kfs_call_desk.specs.declared.made.CallFault.TheVariants as faults
use Rattle.kfs_kept.specs.Calls.Making.{IsToldIn}
use Rattle.kfs_kept.proofs.CallsLemmas.Answering.{answer_leads}
use Rattle.kfs_kept.proofs.CallsLemmas.OneLead.{never_bad, one_lead}
use Rattle.kfs_kept.proofs.calls.again.make_one.Goals as goal

pub returns-then-eq-clause-leads : goal.returns-then-eq-clause-leads
returns-then-eq-clause-leads g c =
    let same : drop 4 c.answer_row-row.result.items ≡ c.args.kept.now.answer.now = search rules in
    let told : IsToldIn c.in-Ok.called c.args.kept.now.answer.now = subst (IsToldIn c.in-Ok.called) same c.answer_row-row.ensures.told in
    answer_leads c.args.desk.now c.call.new.desk c.args.kept.now.call.now c.args.kept.now.answer.now c.in-Ok.called c.in-Ok.ensures.called told

pub returns-in-Err-BadCall-clause-due : goal.returns-in-Err-BadCall-clause-due
returns-in-Err-BadCall-clause-due g c = λ t leads.
    let refusal : IsRefusal c.args.kept.now.call.now c.args.desk.now (faults.BadCall c.in-Err-BadCall.field-0-0) = search rules in
    never_bad c.args.desk.now c.args.kept.now.call.now leads.call c.in-Err-BadCall.field-0-0 leads.fits leads.spelled refusal

pub returns-else-eq-clause-due : goal.returns-else-eq-clause-due
returns-else-eq-clause-due g c = λ t leads.
    let call = c.args.kept.now.call.now in
    let answer = drop 4 c.answer_row-row.result.items in
    let made = answer_leads c.args.desk.now c.call.new.desk call answer c.in-Ok.called c.in-Ok.ensures.called c.answer_row-row.ensures.told in
    let same : answer ≡ c.args.kept.now.answer.now = (one_lead c.args.desk.now.state c.call.new.desk.state t call answer c.args.kept.now.answer.now c.requires.bytes made leads).0 in
    search (rules, same)
