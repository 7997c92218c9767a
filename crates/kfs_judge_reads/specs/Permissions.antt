-- What a view permits a client.
use Rattle.std.specs.Prelude.{ℕ}
use Rattle.kfs_image_nodes.specs.Contents.{sight_of}
use Rattle.kfs_mode.specs.Access.{Permission, permitted_to}
use Rattle.kfs_mode.specs.declared.access.Access.{Access}
use Rattle.kfs_judge_reads.specs.View.{clients_of, contents_of}
use Rattle.kfs_judge_reads.specs.declared.view.View.{View}

-- what the view permits the client with this number on the node with that number
abbrev pub permitted_by_view : {A : Type 0} → View A → Access → (client number : ℕ) → Permission
permitted_by_view view access client number = permitted_to (clients_of view) (sight_of (contents_of view)) access client number
