-- What the rows of a net do to nodes and names.
use Rattle.std.specs.Prelude.{ℕ, ◌==◌, List, [], ◌∷◌, Option, Some, None, option_map, if◌then◌else◌}
use Rattle.kfs_types.specs.declared.plan.NameRow.{NameRow}
use Rattle.kfs_types.specs.declared.plan.NodeRow.{NodeRow}
use Rattle.kfs_types.specs.Views.{header_of}
use Rattle.kfs_model.specs.Header.{Header}
use Rattle.kfs_model.specs.Table.{Table, numbers, changed}
use Rattle.kfs_model.specs.Tree.{NameTable}
use Rattle.kfs_image_nodes.specs.Contents.{Contents}

-- the number in a row; 0 stands for none
abbrev pub led_to : ℕ → Option ℕ
led_to number = if number == 0 then None else Some number

-- the names after the rows, one after the other
abbrev pub renamed : NameTable → List (NameRow (List ℕ)) → NameTable
renamed names [] = names
renamed names (row ∷ rows) = renamed (changed names (row.dir, row.name) (led_to row.number)) rows

-- the headers after the rows, one after the other
abbrev pub reheaded : Table numbers Header → List NodeRow → Table numbers Header
reheaded heads [] = heads
reheaded heads (row ∷ rows) = reheaded (changed heads row.number (option_map header_of row.now)) rows

abbrev pub after_rows : Contents → List (NameRow (List ℕ)) → List NodeRow → Contents
after_rows c names nodes = record { heads = reheaded c.heads nodes; names = renamed c.names names }
