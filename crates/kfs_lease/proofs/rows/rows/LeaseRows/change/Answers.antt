use Rattle.std.proofs.Common.{Ok, Err, rules}
use Rattle.std.specs.Prelude.{OnOk}
use Rattle.std.specs.declared.result.Result.{Result}
use Rattle.kfs_lease.proofs.RowsLemmas.Edits.{exact_after, rows_made}
use Rattle.kfs_lease.proofs.rows.rows.LeaseRows.change.Goals as goal

-- what is said second of a change that was made
second : {T E : Type 0} (P Q R : Type 0) (r : Result T E) → OnOk r (P × (Q × R)) → OnOk r Q
second P Q R (Ok done) all = all.1.0
second P Q R (Err error) all = tt

pub returns-clause-indexed : goal.returns-clause-indexed
returns-clause-indexed g c =
    let result = c.change_then.result in
    let ends_edited : OnOk result _ = second _ _ _ result c.change_then.ensures.made in
    exact_after c.args.self.now _ c.args.rows.now c.args.ends.now c.args.of_clients.now result c.requires.exact c.requires.keys c.requires.indexed c.change_then.ensures.ok (search rules) (search rules) (search rules)

pub returns-clause-rows : goal.returns-clause-rows
returns-clause-rows g c = rows_made c.args.self.now (record c.args.self.now { leases = c.change_then.new.self }) c.args.rows.now c.args.ends.now c.args.of_clients.now c.change_then.result c.change_then.ensures.ok
