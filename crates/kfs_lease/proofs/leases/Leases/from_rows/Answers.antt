use Rattle.std.proofs.Common.{◌≡◌, None, inr, option_map, take, sym, ap, subst, ◌∙◌, arith}
use Rattle.std.proofs.lemmas.List.{take_all}
use Rattle.kfs_model.specs.Lease.{LeaseTable}
use Rattle.kfs_model.specs.Table.{get, insert}
use Rattle.kfs_lease.specs.InForce.{AreInForce}
use Rattle.kfs_lease.specs.LeaseLists.{AreLawful, fault_of_rows, listed_table}
use Rattle.kfs_lease.specs.declared.rows.rows.LeaseKind.TheVariants.{Read}
use Rattle.kfs_lease.specs.Rows.Rows.{row_table, table_in}
use Rattle.kfs_lease.specs.ShownLists.{row_fault_of, row_shown, rows_shown}
use Rattle.kfs_lease.specs.declared.leases.listed.LeaseRow.{LeaseRow}
use Rattle.kfs_lease.proofs.ListLemmas.Faultless.{faultless_lawful}
use Rattle.kfs_lease.proofs.ListLemmas.HandedIn.{absent, behind_all, earlier, fault_first, none_yet, row, shown_more}
use Rattle.kfs_lease.proofs.ListLemmas.LastRow.{table_more}
use Rattle.kfs_lease.proofs.leases.Leases.from_rows.Goals as goal

abbrev nothing : LeaseRow
nothing = record { number = 0; client = 0; kind = Read; end = 0 }

pub returns-in-Some-clause-err : goal.returns-in-Some-clause-err
returns-in-Some-clause-err g c =
    inr (fault_first c.args.rows.now c.loop-index.index nothing c.loop-index-test.true c.args.clients.now (get c.args.shape.now.heads) c.args.moment (option_map row_shown c.loop-index.last) c.loop-index.invariant.none c.loop-index.invariant.last
    (row_fault_of c.in-Some.fault) c.in-Some.ensures.some c.in-Some.ensures.named)

pub put-requires-clause-old : goal.put-requires-clause-old
put-requires-clause-old g c =
    sym (absent c.args.rows.now c.loop-index.index nothing c.loop-index-test.true c.args.clients.now (get c.args.shape.now.heads) c.args.moment (option_map row_shown c.loop-index.last) c.loop-index.invariant.none c.loop-index.invariant.last
    c.in_default.ensures.none (row_table c.loop-index.table) c.loop-index.invariant.table)

pub loop-index-preserved : goal.loop-index-preserved
loop-index-preserved g c =
    let rows = c.args.rows.now in
    let i = c.loop-index.index in
    let before = earlier rows i nothing c.loop-index-test.true in
    let here = row rows i nothing c.loop-index-test.true in
    let more = shown_more rows i nothing c.loop-index-test.true in
    let last = option_map row_shown c.loop-index.last in
    let behind = behind_all rows i nothing c.loop-index-test.true c.args.clients.now (get c.args.shape.now.heads) c.args.moment last c.loop-index.invariant.none c.loop-index.invariant.last c.in_default.ensures.none in
    record {
      none = none_yet rows i nothing c.loop-index-test.true c.args.clients.now (get c.args.shape.now.heads) c.args.moment last c.loop-index.invariant.none c.loop-index.invariant.last c.in_default.ensures.none;
      last = (before, more);
      table = c.in_ok-put.ensures.table ∙ ap (λ t. insert t (here.client, here.number) (record { kind = here.kind; end = here.end })) c.loop-index.invariant.table ∙ sym (table_more before here behind) ∙ ap listed_table (sym more);
      exact = c.in_ok-put.ensures.indexed;
    }

-- the rows are those of a lawful table
pub invariant_of-result : goal.invariant_of-result
invariant_of-result g c =
    let rows = c.args.rows.now in
    let i = c.loop-index.index in
    let all : rows_shown (take i rows) ≡ rows_shown rows = ap rows_shown (take_all i rows (omega (arith, c.loop-index-test.false))) in
    let none = subst (λ rs. fault_of_rows c.args.clients.now (get c.args.shape.now.heads) c.args.moment rs ≡ None) all c.loop-index.invariant.none in
    let table : table_in c.loop-index.table ≡ listed_table (rows_shown rows) = c.loop-index.invariant.table ∙ ap listed_table all in (
      c.loop-index.invariant.exact,
      subst (λ (t : LeaseTable). AreInForce (record { rows = t; moment = c.args.moment })) (sym table) (faultless_lawful c.args.clients.now (get c.args.shape.now.heads) c.args.moment (rows_shown rows) none).in_force,
    )

pub returns-clause-lawful : goal.returns-clause-lawful
returns-clause-lawful g c =
    let rows = c.args.rows.now in
    let i = c.loop-index.index in
    let all : rows_shown (take i rows) ≡ rows_shown rows = ap rows_shown (take_all i rows (omega (arith, c.loop-index-test.false))) in
    let none = subst (λ rs. fault_of_rows c.args.clients.now (get c.args.shape.now.heads) c.args.moment rs ≡ None) all c.loop-index.invariant.none in
    let table : table_in c.loop-index.table ≡ listed_table (rows_shown rows) = c.loop-index.invariant.table ∙ ap listed_table all in
    subst (λ (t : LeaseTable). AreLawful c.args.clients.now (get c.args.shape.now.heads) (record { rows = t; moment = c.args.moment })) (sym table)
    (faultless_lawful c.args.clients.now (get c.args.shape.now.heads) c.args.moment (rows_shown rows) none)
