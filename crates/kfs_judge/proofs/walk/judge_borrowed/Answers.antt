-- What holds over the cells holds of the trees that show them.
use Rattle.kfs_model.specs.Sight.{client_sight}
use Rattle.std.proofs.Common.{map}
use Rattle.kfs_types.specs.Views.{entry_of}
use Rattle.kfs_judge.proofs.TreeWalks.{comes_to_tree}
use Rattle.kfs_judge.proofs.walk.judge_borrowed.Goals as goal

pub returns-clause-known : goal.returns-clause-known
returns-clause-known g c =
    let known = c.in_ok-walk.ensures.known in
    (known.0, known.1, λ source within tree held fits agrees. comes_to_tree known.0 held tree (map (entry_of source) c.args.log.now.entries) fits c.in_ok-walk.walk.outcome c.in_ok-walk.walk.sizes.items (known.2 (client_sight tree held) agrees source within))
