-- The numbers of a name row, and what is asked of them.
use Rattle.std.specs.Prelude.{◌≡◌, ℕ, ◌==◌, ◌&&◌, not, List, map, Option, is_some}
use Rattle.kfs_model.specs.Header.{Header}
use Rattle.kfs_model.specs.Limits.{root_number}
use Rattle.kfs_model.specs.PlanRow.{NameRow}
use Rattle.kfs_model.specs.Sight.{is_directory}
use Rattle.kfs_model.specs.Device.RawImage.{RawImage}
use Rattle.kfs_model.specs.Device.Rules.{Test, test}
use Rattle.kfs_shape.specs.declared.links.Link.{Link}

abbrev pub link_of : NameRow → Link
link_of row = record { dir = row.directory; number = row.number }

-- the list has the link of each name row, in the rows' order
abbrev pub AreLinks : List Link → RawImage → Type 0
AreLinks links raw = links ≡ map link_of raw.names

-- whether the name is in a directory, where `head` gives each number its header
abbrev pub inside_test : (head : ℕ → Option Header) → Link → Test
inside_test head link = test (is_directory (head link.dir)) link.dir

-- whether the name leads to a node other than the root
abbrev pub aim_test : (head : ℕ → Option Header) → Link → Test
aim_test head link = test (is_some (head link.number) && not (link.number == root_number)) link.number
