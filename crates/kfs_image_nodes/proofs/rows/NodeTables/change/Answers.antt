use Rattle.std.proofs.Common.{Ok, Err, rules}
use Rattle.std.specs.Prelude.{OnOk}
use Rattle.std.specs.declared.result.Result.{Result}
use Rattle.kfs_image_nodes.proofs.rows.NodeTables.change.Goals as goal

-- what is said third of a change that was made
third : {T E : Type 0} (P Q R S : Type 0) (r : Result T E) → OnOk r (P × (Q × (R × S))) → OnOk r R
third P Q R S (Ok done) all = all.1.1.0
third P Q R S (Err error) all = tt

pub returns-clause-uplinks : goal.returns-clause-uplinks
returns-clause-uplinks g c =
    let edited : OnOk c.change_then.result _ = third _ _ _ _ c.change_then.result c.change_then.ensures.made in
    search rules
