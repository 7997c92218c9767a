use Rattle.std.proofs.Common.{⊎_elim, List, map, option_map, sym, ap, subst, ◌∙◌}
use Rattle.kfs_model.specs.Header.{Header}
use Rattle.kfs_model.specs.Table.{Table, numbers, get}
use Rattle.kfs_image_nodes.specs.Contents.{Contents}
use Rattle.kfs_lease.specs.LeaseLists.{LeaseRow, fault_of_rows, listed_leases}
use Rattle.kfs_lease.specs.ShownLists.{rows_shown}
use Rattle.kfs_call.specs.StateViews.{lease_shown}
use Rattle.kfs_call_desk.specs.Restore.Restored.{BadLease}
use Rattle.kfs_call_desk.specs.Restore.Saved.{lease_of_row}
use Rattle.kfs_call_desk.specs.Restore.Told.{IsRefusedFor}
use Rattle.kfs_call_desk.specs.declared.restore.fault.RestoreFault.TheVariants as faults
use Rattle.kfs_call_desk.proofs.RestoreLemmas.Encoded.{read_all}
use Rattle.kfs_call_desk.proofs.RestoreLemmas.LeaseFaults.{lease_told}
use Rattle.kfs_call_desk.proofs.restore.restoring.leases_from.Goals as goal

pub returns-in-Ok-clause-leases : goal.returns-in-Ok-clause-leases
returns-in-Ok-clause-leases g c =
    let same = ap rows_shown c.deref-2.ensures.value ∙ c.in_ok-rows.ensures ∙ read_all c.args.rows.now in
    c.in-Ok.ensures.ok ∙ ap (listed_leases c.args.moment) same

pub returns-in-Ok-clause-fit : goal.returns-in-Ok-clause-fit
returns-in-Ok-clause-fit g c =
    let same = ap rows_shown c.deref-2.ensures.value ∙ c.in_ok-rows.ensures ∙ read_all c.args.rows.now in
    let heads = ap (λ (s : Contents). s.heads) (c.deref.ensures ∙ c.shape.ensures.shape) in
    ap (λ (h : Table numbers Header). option_map BadLease (fault_of_rows c.args.clients.now (get h) c.args.moment (map lease_of_row (map lease_shown c.args.rows.now)))) (sym heads)
    ∙ ap (λ (rows : List LeaseRow). option_map BadLease (fault_of_rows c.args.clients.now (get c.deref.result.now.heads) c.args.moment rows)) (sym same)
    ∙ ap (option_map BadLease) c.in-Ok.ensures.faultless

pub returns : goal.returns
returns g c =
    let same = ap rows_shown c.deref-2.ensures.value ∙ c.in_ok-rows.ensures ∙ read_all c.args.rows.now in
    let heads = ap (λ (s : Contents). s.heads) (c.deref.ensures ∙ c.shape.ensures.shape) in
    let found = fault_of_rows c.args.clients.now (get c.deref.result.now.heads) c.args.moment (rows_shown c.deref-2.result.now) in
    let fault = c.in-Err.fault in
    let not = c.in_default.not-OutOfMemory in
    record {
      leases = tt;
      lawful = tt;
      fit = tt;
      err = ⊎_elim (λ memory. absurd (not memory))
          (λ is. subst (λ refusal. IsRefusedFor refusal (faults.BadLease fault)) (λ i. option_map BadLease (fault_of_rows c.args.clients.now (get (heads i)) c.args.moment (same i))) (lease_told found fault not is))
          c.in-Err.ensures.err;
    }
