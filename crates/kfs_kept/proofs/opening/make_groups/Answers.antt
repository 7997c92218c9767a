use Rattle.std.proofs.Common.{rules, ◌+◌, ◌≤◌, length, drop, subst, sym}
use Rattle.std.proofs.lemmas.Result.{err_from_is_err_and}
use Rattle.kfs_model.specs.Judgement.{State}
use Rattle.kfs_journal.specs.Journal.{groups_of}
use Rattle.kfs_kept.specs.Calls.Leads.{GroupsLead}
use Rattle.kfs_kept.proofs.Meant.{groups_so_far, next_group, none_left}
use Rattle.kfs_kept.proofs.opening.make_groups.Goals as goal

pub loop-index-preserved : goal.loop-index-preserved
loop-index-preserved g c =
    let so_far = c.loop-index.invariant in record {
      lead = groups_so_far c.args.desk.now.state c.loop-index.desk.state c.make_group.new.desk.state c.args.groups.now c.loop-index.index c.index-groups-index.result c.deref.result.now c.loop-index-test.true c.index-groups-index.is c.deref.ensures.value
          so_far.lead c.in_ok-make_group.ensures.leads;
      due = λ t leads.
          let next = next_group c.loop-index.desk.state t c.args.groups.now c.loop-index.index c.index-groups-index.result c.deref.result.now c.loop-index-test.true c.index-groups-index.is c.deref.ensures.value (so_far.due t leads) in
          subst (λ (u : State). GroupsLead u (groups_of (drop (c.loop-index.index + 1) c.args.groups.now)) t) (sym (c.in_ok-make_group.ensures.only next.0 next.1)) next.2;
    }

pub returns-in_err-make_group-clause-due : goal.returns-in_err-make_group-clause-due
returns-in_err-make_group-clause-due g c = λ t leads.
    let next = next_group c.loop-index.desk.state t c.args.groups.now c.loop-index.index c.index-groups-index.result c.deref.result.now c.loop-index-test.true c.index-groups-index.is c.deref.ensures.value (c.loop-index.invariant.due t leads) in
    let p = err_from_is_err_and c.from_residual.result c.from_residual.ensures.1 in
    rw (p.1, p.2) (c.in_err-make_group.ensures.due next.0 next.1)

pub returns-clause-only : goal.returns-clause-only
returns-clause-only g c = λ t leads.
    let le : length c.args.groups.now ≤ c.loop-index.index = search rules in
    sym (none_left c.loop-index.desk.state t c.args.groups.now c.loop-index.index le (c.loop-index.invariant.due t leads))
