-- What stands in a table from a start on, and the rows of nodes and names.
use Rattle.std.specs.Prelude.{ℕ, List}
use Rattle.std.specs.declared.ops.Bound.{Bound}
use Rattle.kfs_types.specs.Views.{header_of}
use Rattle.kfs_model.specs.Header.{Header}
use Rattle.kfs_model.specs.Spelling.{name_row_bytes}
use Rattle.kfs_model.specs.Table.{Order, Table}
use Rattle.kfs_model.specs.Device.Listed.{raw_node, name_row}
use Rattle.kfs_model.specs.Device.Spelling.{raw_node_bytes}
use Rattle.kfs_maps.specs.Chunks.Starts as starts
use Rattle.kfs_image.specs.declared.codec.raw.RawNode.{RawNode}

module _ {K X : Type 0} {R : Order K} where
  -- the entries whose keys are at the start or behind it
  abbrev pub entries_from : Bound K → Table R X → List (K × X)
  entries_from start t = starts.entries_from R.compare start t.entries

-- the entry that a node's row says
abbrev pub node_entry_of : RawNode → ℕ × Header
node_entry_of row = (row.number, header_of row.header)

-- the encoding of a node's row, and of a name's
abbrev pub node_spelling : ℕ × Header → List ℕ
node_spelling entry = raw_node_bytes (raw_node entry)

abbrev pub name_spelling : (ℕ × List ℕ) × ℕ → List ℕ
name_spelling entry = name_row_bytes (name_row entry)
