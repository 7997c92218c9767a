-- What is asked of a name row, given the one before it.
use Rattle.std.specs.Prelude.{ℕ, List, map, Option, None}
use Rattle.kfs_model.specs.PlanRow.{NameRow}
use Rattle.kfs_model.specs.Tree.{name_order}
use Rattle.kfs_model.specs.Device.Rules.{Test, test, is_above, with_previous}
use Rattle.kfs_model.specs.Device.Finding.{least_failed}

-- whether the row's directory and name are above those of the row before
abbrev pub order_test : Option NameRow × NameRow → Test
order_test e = test (is_above name_order (λ row. (row.directory, row.name)) e) e.1.directory

-- the least directory number of a row that isn't above the row before, if there is such a row
abbrev pub least_unordered : List NameRow → Option ℕ
least_unordered rows = least_failed (map order_test (with_previous None rows))
