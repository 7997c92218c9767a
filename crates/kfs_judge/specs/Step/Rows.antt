-- The rows of a net: one for each key whose value has changed.
use Rattle.std.specs.Prelude.{◌≡◌, ◌≢◌, ℕ, List, Option, MatchOption}
use Rattle.kfs_model.specs.Header.{Header}
use Rattle.kfs_model.specs.Plan.{header_now, keyed_name, keyed_node, number_now}
use Rattle.kfs_model.specs.Sight.{Sight}
use Rattle.kfs_types.specs.Views.{name_row_of, node_row_of}
use Rattle.kfs_types.specs.declared.plan.NameRow.{NameRow as CodeNameRow}
use Rattle.kfs_types.specs.declared.plan.NodeRow.{NodeRow as CodeNodeRow}

-- there is a row with the value now exactly where the value differs from before
abbrev pub IsRow : {K X Y Z : Type 0} → (now : Option X → Y) → (shown : Z → K × Y) → (key : K) → (before there : Option X) → Option Z → Type 0
IsRow now shown key before there row = MatchOption row (before ≡ there) (λ r. (before ≢ there) × (shown r ≡ (key, now there)))

abbrev pub keyed_name_row : CodeNameRow (List ℕ) → (ℕ × List ℕ) × ℕ
keyed_name_row r = keyed_name (name_row_of r)

abbrev pub keyed_node_row : CodeNodeRow → ℕ × Option Header
keyed_node_row r = keyed_node (node_row_of r)

-- this is the row of a name that leads to this number now; below, of a number that has this header now
abbrev pub IsRowOfName : (before : Sight) → (key : ℕ × List ℕ) → (now : Option ℕ) → Option (CodeNameRow (List ℕ)) → Type 0
IsRowOfName before key now row = IsRow number_now keyed_name_row key (before.name key.0 key.1) now row

abbrev pub IsRowOfNode : (before : Sight) → (number : ℕ) → (now : Option Header) → Option CodeNodeRow → Type 0
IsRowOfNode before number now row = IsRow header_now keyed_node_row number (before.head number) now row
