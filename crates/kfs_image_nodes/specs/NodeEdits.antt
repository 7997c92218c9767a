-- The header of a number after node rows, and the edits that make it so.
use Rattle.std.specs.Prelude.{◌≡◌, ℕ, ◌≤◌, ◌&&◌, nat_le, List, [], ◌∷◌, Option, Some, if◌then◌else◌}
use Rattle.std.specs.Ordering.{nat_cmp, eq_by_cmp}
use Rattle.kfs_types.specs.declared.entry.Header.{Header as CodeHeader}
use Rattle.kfs_types.specs.declared.plan.NodeRow.{NodeRow}
use Rattle.kfs_model.specs.Header.{Header}
use Rattle.kfs_model.specs.Limits.{greatest_number}
use Rattle.kfs_model.specs.Table.{Table, numbers, get}
use Rattle.kfs_maps.specs.declared.pages.change.NumberEdit.{NumberEdit}
use Rattle.kfs_maps.specs.Pages.Edits.{edited, AreEdits}

-- the header of a number after the rows, given its header before
abbrev pub left_by : List NodeRow → ℕ → Option CodeHeader → Option CodeHeader
left_by [] q there = there
left_by (row ∷ rows) q there = left_by rows q (if eq_by_cmp nat_cmp q row.number then row.now else there)

-- the edit that a row makes
abbrev pub node_edit : NodeRow → NumberEdit CodeHeader
node_edit row = record { number = row.number; value = row.now }

-- pages have this number: it is 1 to 65,536
abbrev pub IsNumber : ℕ → Type 0
IsNumber number = (1 ≤ number) × (number ≤ greatest_number)

-- the edits ascend, and leave of each number that pages have what the rows leave of it
pub record AreHeaderEdits (rows : List NodeRow) (edits : List (NumberEdit CodeHeader)) : Type 0 where
  pub are : AreEdits edits
  pub says : (q : ℕ) (there : Option CodeHeader) → IsNumber q → edited edits q there ≡ left_by rows q there

-- each node has such a number
abbrev pub AreNumbered : Table numbers Header → Type 0
AreNumbered heads = (number : ℕ) (h : Header) → get heads number ≡ Some h → IsNumber number

module _ {X : Type 0} where
  -- the edits with the set values, for numbers that pages have
  unfoldable pub edits_from : List (ℕ × Option X) → List (NumberEdit X)
  edits_from [] = []
  edits_from (e ∷ es) = if nat_le 1 e.0 && nat_le e.0 greatest_number then record { number = e.0; value = e.1 } ∷ edits_from es else edits_from es
