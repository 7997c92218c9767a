use Rattle.kfs_model.proofs.OneByOne.{run_is_one_by_one}
use Rattle.kfs_model.proofs.Ends.{each_end}
use Rattle.std.specs.Prelude.{[]}
use Rattle.kfs_model.proofs.laws.accepted_entries_one_by_one.Goals as goal

pub returns : goal.returns
returns c client before tree entries = each_end _ _ (run_is_one_by_one client before 0 [] tree entries)
