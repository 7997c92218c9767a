use Rattle.std.proofs.Common.{ℕ}
use Rattle.kfs_model.proofs.FreshTree.{fresh_is_sound}
use Rattle.kfs_model.proofs.laws.fresh_tree_is_sound.Goals as goal

pub returns : goal.returns
returns c = fresh_is_sound ℕ
