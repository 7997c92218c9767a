use Rattle.std.proofs.Common.{◌≡◌, take, sym, ap, subst, ◌∙◌}
use Rattle.kfs_model.specs.Lease.{Leases}
use Rattle.kfs_lease.specs.InForce.{AreInForce}
use Rattle.kfs_lease.specs.LeaseLists as model
use Rattle.kfs_lease.specs.LeaseLists.{AreLawful}
use Rattle.kfs_lease.specs.Rows.Rows.{table_in, IndexesAreExact}
use Rattle.kfs_lease.specs.ShownLists.{rows_shown}
use Rattle.kfs_lease.specs.declared.leases.listed.LeaseRow.{LeaseRow}
use Rattle.kfs_lease.specs.declared.rows.rows.LeaseKind.TheVariants.{Read}
use Rattle.kfs_lease.proofs.ListLemmas.HandedIn.{ascends_there, earlier, row, shown_more}
use Rattle.kfs_lease.proofs.ListLemmas.OfClients.{HaveEnded, ended_more, lawful_left, left_in_force, left_is, none_ended}
use Rattle.kfs_lease.proofs.leases.Leases.of_clients.Goals as goal

abbrev nothing : LeaseRow
nothing = record { number = 0; client = 0; kind = Read; end = 0 }

pub loop-row-init : goal.loop-row-init
loop-row-init g c =
    let same = c.in_ok-left.ensures.cases in
    let table : c.args.self.now.rows ≡ table_in c.in_ok-left.left = ap (λ (l : Leases). l.rows) (sym c.self.view_is) ∙ ap table_in (sym same) in
    record {
      exact = subst IndexesAreExact (sym same) c.self.invariant.0;
      ended = subst (λ t. HaveEnded c.args.clients.now c.args.self.now.rows (rows_shown (take 0 c.deref-row-items.result.now)) t) table (none_ended c.args.clients.now c.args.self.now.rows);
    }

pub end_if_gone-requires : goal.end_if_gone-requires
end_if_gone-requires g c = record { indexed = c.loop-row.invariant.exact }

pub loop-row-preserved : goal.loop-row-preserved
loop-row-preserved g c =
    let rows = c.deref-row-items.result.now in
    let i = c.loop-row.row-index in
    let below = c.loop-row-test.true in
    let all = c.args.self.now.rows in
    let ascend = subst (λ rs. model.Ascend (rows_shown rs)) (sym c.deref-row-items.ensures.value) c.in_ok-rows.ensures.ascend in
    record {
      exact = c.in_ok-end_if_gone.ensures.indexed;
      ended =
          subst (λ rs. HaveEnded c.args.clients.now all rs (table_in c.end_if_gone.new.left)) (sym (shown_more rows i nothing below))
          (ended_more c.args.clients.now all (table_in c.loop-row.left) (table_in c.end_if_gone.new.left) (earlier rows i nothing below) (row rows i nothing below) (ascends_there rows i nothing below ascend)
          c.loop-row.invariant.ended c.in_ok-end_if_gone.ensures.table);
    }

-- after all rows, the leases of these clients are left
pub invariant_of-result : goal.invariant_of-result
invariant_of-result g c =
    let leases = c.args.self.now in
    let left = left_is c.args.clients.now leases c.deref-row-items.result.now c.in_ok-rows.rows.items c.loop-row.row-index (table_in c.loop-row.left) c.deref-row-items.ensures.value c.loop-row-test.false c.in_ok-rows.ensures.same c.loop-row.invariant.ended in
    let in_force = subst AreInForce c.self.view_is c.self.invariant.1 in (
      c.loop-row.invariant.exact,
      subst AreInForce (λ i. record { rows = sym left i; moment = (sym c.self.view_is i).moment }) (left_in_force c.args.clients.now leases in_force),
    )

pub returns-clause-left : goal.returns-clause-left
returns-clause-left g c =
    let left = left_is c.args.clients.now c.args.self.now c.deref-row-items.result.now c.in_ok-rows.rows.items c.loop-row.row-index (table_in c.loop-row.left) c.deref-row-items.ensures.value c.loop-row-test.false c.in_ok-rows.ensures.same c.loop-row.invariant.ended in
    λ i. record { rows = left i; moment = (c.self.view_is i).moment }

pub returns-clause-lawful : goal.returns-clause-lawful
returns-clause-lawful g c = λ known heads lawful. subst (AreLawful c.args.clients.now heads) (sym (returns-clause-left g c)) (lawful_left c.args.clients.now c.args.self.now known heads lawful)
