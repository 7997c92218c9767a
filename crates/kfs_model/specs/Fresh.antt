-- The tree of a new image: the root alone, a directory with mode 0o777, uid 0 and gid 0.
use Rattle.std.specs.Prelude.{[], ◌∷◌}
use Rattle.kfs_model.specs.Limits.{greatest_mode_of_version_1, root_number}
use Rattle.kfs_model.specs.Tree.{Tree, DirectoryBody}

abbrev pub fresh_tree : {B : Type 0} → Tree B
fresh_tree = record {
  nodes = record { entries = (root_number, record { mode = greatest_mode_of_version_1; uid = 0; gid = 0; body = DirectoryBody }) ∷ []; sorted = tt };
  names = record { entries = []; sorted = tt };
}
