-- New headers, of which most logs make one.
use Rattle.std.specs.Prelude.{List}
use Rattle.kfs_types.specs.declared.entry.Header.{Header}
use Rattle.kfs_maps.specs.declared.pages.change.NumberEdit.{NumberEdit}
use Rattle.kfs_image_nodes.specs.declared.edits.HeaderEdits.{HeaderEdits}
use Rattle.kfs_image_nodes.specs.declared.edits.HeaderEdits.TheVariants as kept

-- the new headers, in order
abbrev pub header_edits_in : {A : Type 0} → HeaderEdits A → List (NumberEdit Header)
header_edits_in (kept.One edit) = edit
header_edits_in (kept.All edits) = edits.items
