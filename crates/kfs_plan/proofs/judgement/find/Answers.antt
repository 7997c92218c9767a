-- The row that the view has, and the verdict at each place where the judgement ends.
use Rattle.std.proofs.Common.{Some, map, refl, subst, sym, ap, ◌∙◌, arith}
use Rattle.std.specs.Option.{option_map, is_some}
use Rattle.kfs_model.specs.Spelling.{IsBytes}
use Rattle.kfs_model.proofs.Fields.{some_is}
use Rattle.kfs_model.specs.CleanStep.{IsClient}
use Rattle.kfs_model.specs.Lease.{row_of}
use Rattle.kfs_model.specs.Looked.{looked_cells}
use Rattle.kfs_entry.specs.Answers.{log_of}
use Rattle.kfs_types.specs.Views.{entry_of}
use Rattle.kfs_plan.specs.declared.submission.Fault.TheVariants as faults
use Rattle.kfs_plan.specs.declared.judgement.Spelled.TheVariants as readings
use Rattle.kfs_plan.specs.Judging.{submission_with, AreSpelled, IsEarly, IsVerdict, IsReading, RefusesByFault, StopsByFault}
use Rattle.kfs_judge.specs.Views.{clients_of, client_sight_in, Agrees, AreAmong}
use Rattle.kfs_judge.proofs.CheckLemmas.Lists.{row_has_number}
use Rattle.kfs_entry.proofs.Ranges.{entries_fit}
use Rattle.kfs_plan.proofs.Verdicts.{unknown_client, walked_verdict, nothing_read, unread_looked, settled_is_fault, settled_looked}
use Rattle.kfs_plan.proofs.judgement.find.Goals as goal

pub returns-in_default-clause-known : goal.returns-in_default-clause-known
returns-in_default-clause-known g c s alike =
    let log : IsBytes c.args.log.now = λ i. omega (arith, c.type_inv.log i) in
    let plan : IsBytes c.args.plan.now = λ i. omega (arith, c.type_inv.plan i) in
    subst (λ o. IsVerdict {A = g.row.A.Denot} s (submission_with c.args.number c.args.log.now c.args.plan.now) o) (sym c.unread.ensures.outcome)
    (unknown_client g.row.A.Denot s (submission_with c.args.number c.args.log.now c.args.plan.now) log plan (alike.row ∙ (sym c.client.ensures ∙ ap (option_map (λ r. r.now)) c.in_default.is)))

pub returns-in-No-clause-known : goal.returns-in-No-clause-known
returns-in-No-clause-known g c s alike =
    let row = sym c.client.ensures ∙ ap (option_map (λ r. r.now)) c.in-Some.is in
    let same = c.number.ensures.number ∙ row_has_number (clients_of c.args.view.now) c.args.number c.in-Some.client.now row in
    let read = subst (λ r. IsReading {A = g.row.A.Denot} (submission_with c.number.result c.args.log.now c.args.plan.now) r) c.in-No.is c.in_ok-fault.ensures.read in
    let own = subst (λ n. IsReading {A = g.row.A.Denot} (submission_with n c.args.log.now c.args.plan.now) (readings.No c.in-No.fault)) same read in
    subst (λ o. IsVerdict {A = g.row.A.Denot} s (submission_with c.args.number c.args.log.now c.args.plan.now) o) (sym c.unread-in-No.ensures.outcome)
    (own s c.in-Some.client.now (alike.row ∙ row))

pub judge_borrowed-requires-clause-client : goal.judge_borrowed-requires-clause-client
judge_borrowed-requires-clause-client g c =
    let row = sym c.client.ensures ∙ ap (option_map (λ r. r.now)) c.in-Some.is in
    let same = c.number.ensures.number ∙ row_has_number (clients_of c.args.view.now) c.args.number c.in-Some.client.now row in
    let read = subst (λ r. IsReading {A = g.row.A.Denot} (submission_with c.number.result c.args.log.now c.args.plan.now) r) c.in-Yes.is c.in_ok-fault.ensures.read in
    ap is_some (ap (row_of (clients_of c.args.view.now)) (read.owner ∙ same) ∙ row)

pub settle-requires-clause-spans : goal.settle-requires-clause-spans
settle-requires-clause-spans g c =
    let read = subst (λ r. IsReading {A = g.row.A.Denot} (submission_with c.number.result c.args.log.now c.args.plan.now) r) c.in-Yes.is c.in_ok-fault.ensures.read in
    read.spanned

pub settle-requires-clause-count : goal.settle-requires-clause-count
settle-requires-clause-count g c =
    let read = subst (λ r. IsReading {A = g.row.A.Denot} (submission_with c.number.result c.args.log.now c.args.plan.now) r) c.in-Yes.is c.in_ok-fault.ensures.read in
    entries_fit c.args.log.now c.in-Yes.log read.log_read.0

pub returns-in_ok-finding-in-Yes-clause-known : goal.returns-in_ok-finding-in-Yes-clause-known
returns-in_ok-finding-in-Yes-clause-known g c s alike =
    let clients = clients_of c.args.view.now in
    let row = sym c.client.ensures ∙ ap (option_map (λ r. r.now)) c.in-Some.is in
    let same = c.number.ensures.number ∙ row_has_number clients c.args.number c.in-Some.client.now row in
    let read = subst (λ r. IsReading {A = g.row.A.Denot} (submission_with c.number.result c.args.log.now c.args.plan.now) r) c.in-Yes.is c.in_ok-fault.ensures.read in
    let spelled = subst (λ n. AreSpelled {A = g.row.A.Denot} (submission_with n c.args.log.now c.args.plan.now) c.in-Yes.log c.in-Yes.plan) same read in
    let known = c.in_ok-walk-in-Yes.ensures.known in
    let this = some_is c.in-Some.client.now known.0 (sym row ∙ ap (row_of clients) (sym spelled.owner) ∙ known.1) in
    walked_verdict g.row.A.Denot s (submission_with c.args.number c.args.log.now c.args.plan.now) known.0 (row_of clients c.args.number) c.in-Yes.log c.in-Yes.plan c.in_ok-walk-in-Yes.walk c.in_ok-finding-in-Yes.finding.reads.entries c.in_ok-finding-in-Yes.finding.outcome
    spelled (subst IsClient this c.number.ensures.in_range) (row ∙ ap Some this) (ap (λ r. r.entries) c.in_ok-finding-in-Yes.ensures.reads) known.2 c.in_ok-finding-in-Yes.ensures.outcome alike

pub returns-in_default-clause-view_agrees : goal.returns-in_default-clause-view_agrees
returns-in_default-clause-view_agrees g c = nothing_read c.args.view.now c.args.number c.unread.result.reads.entries c.unread.ensures.reads

pub returns-in_default-clause-among : goal.returns-in_default-clause-among
returns-in_default-clause-among g c = unread_looked c.args.view.now (submission_with c.args.number c.args.log.now c.args.plan.now) faults.UnknownClient c.unread.result.outcome c.unread.result.reads.entries refl c.unread.ensures.outcome c.unread.ensures.reads

pub returns-in-No-clause-view_agrees : goal.returns-in-No-clause-view_agrees
returns-in-No-clause-view_agrees g c = nothing_read c.args.view.now c.args.number c.unread-in-No.result.reads.entries c.unread-in-No.ensures.reads

pub returns-in-No-clause-among : goal.returns-in-No-clause-among
returns-in-No-clause-among g c =
    let early = subst (λ r. IsEarly {A = g.row.A.Denot} r) c.in-No.is c.in_ok-fault.ensures.early in
    unread_looked c.args.view.now (submission_with c.args.number c.args.log.now c.args.plan.now) c.in-No.fault c.unread-in-No.result.outcome c.unread-in-No.result.reads.entries early c.unread-in-No.ensures.outcome c.unread-in-No.ensures.reads

pub returns-in_ok-finding-in-Yes-clause-view_agrees : goal.returns-in_ok-finding-in-Yes-clause-view_agrees
returns-in_ok-finding-in-Yes-clause-view_agrees g c =
    let row = sym c.client.ensures ∙ ap (option_map (λ r. r.now)) c.in-Some.is in
    let same = c.number.ensures.number ∙ row_has_number (clients_of c.args.view.now) c.args.number c.in-Some.client.now row in
    let read = subst (λ r. IsReading {A = g.row.A.Denot} (submission_with c.number.result c.args.log.now c.args.plan.now) r) c.in-Yes.is c.in_ok-fault.ensures.read in
    subst (λ n. Agrees c.in_ok-finding-in-Yes.finding.reads.entries (client_sight_in c.args.view.now n)) (read.owner ∙ same)
    (subst (λ r. Agrees r.entries (client_sight_in c.args.view.now c.in-Yes.log.client)) (sym c.in_ok-finding-in-Yes.ensures.reads) c.in_ok-walk-in-Yes.ensures.view_agrees)

pub returns-in_ok-finding-in-Yes-clause-among : goal.returns-in_ok-finding-in-Yes-clause-among
returns-in_ok-finding-in-Yes-clause-among g c =
    let view = c.args.view.now in
    let row = sym c.client.ensures ∙ ap (option_map (λ r. r.now)) c.in-Some.is in
    let same = c.number.ensures.number ∙ row_has_number (clients_of view) c.args.number c.in-Some.client.now row in
    let read = subst (λ r. IsReading {A = g.row.A.Denot} (submission_with c.number.result c.args.log.now c.args.plan.now) r) c.in-Yes.is c.in_ok-fault.ensures.read in
    let own = read.owner ∙ same in
    let entries = map (entry_of c.args.log.now) c.in-Yes.log.entries in
    settled_looked view (submission_with c.args.number c.args.log.now c.args.plan.now) c.in-Yes.log c.in-Yes.plan c.in_ok-walk-in-Yes.walk.sizes.items c.in_ok-walk-in-Yes.walk.outcome c.in_ok-finding-in-Yes.finding.outcome c.in_ok-finding-in-Yes.finding.reads.entries c.in_ok-finding-in-Yes.ensures.outcome (record {
      client = c.in-Some.client.now;
      row = row;
      log = log_of c.args.log.now c.in-Yes.log;
      spelled = read.log_read;
      owner = own;
      among = subst (λ n. AreAmong c.in_ok-finding-in-Yes.finding.reads.entries (looked_cells c.in-Some.client.now (client_sight_in view n) entries)) own
          (subst (λ r. AreAmong r.entries (looked_cells c.in-Some.client.now (client_sight_in view c.in-Yes.log.client) entries)) (sym c.in_ok-finding-in-Yes.ensures.reads)
          (c.in_ok-walk-in-Yes.ensures.among c.in-Some.client.now (ap (row_of (clients_of view)) own ∙ row) c.args.log.now read.within));
    })

pub returns-in_default-clause-fault : goal.returns-in_default-clause-fault
returns-in_default-clause-fault g c = subst (λ o. RefusesByFault {A = g.row.A.Denot} o) (sym c.unread.ensures.outcome) refl

pub returns-in-No-clause-fault : goal.returns-in-No-clause-fault
returns-in-No-clause-fault g c =
    let stops = subst (λ r. StopsByFault {A = g.row.A.Denot} r) c.in-No.is c.in_ok-fault.ensures.fault in
    subst (λ o. RefusesByFault {A = g.row.A.Denot} o) (sym c.unread-in-No.ensures.outcome) stops

pub returns-in_ok-finding-in-Yes-clause-fault : goal.returns-in_ok-finding-in-Yes-clause-fault
returns-in_ok-finding-in-Yes-clause-fault g c =
    settled_is_fault c.in-Yes.log c.in-Yes.plan c.in_ok-walk-in-Yes.walk.sizes.items c.in_ok-walk-in-Yes.walk.outcome c.in_ok-finding-in-Yes.finding.outcome c.in_ok-finding-in-Yes.ensures.outcome
