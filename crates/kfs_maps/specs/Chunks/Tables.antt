-- The table of a list of entries (of two with the same key, the first one counts), and a table after
-- edits.
use Rattle.std.specs.Prelude.{List, [], ◌∷◌}
use Rattle.kfs_model.specs.Table.{Order, Table, empty, insert, changed}
use Rattle.kfs_maps.specs.declared.chunks.entries.KeyEdit.{KeyEdit}

module _ {K V : Type 0} (R : Order K) where
  -- the table of the entries
  unfoldable pub table : List (K × V) → Table R V
  table [] = empty
  table (e ∷ es) = insert (table es) e.0 e.1

module _ {K V : Type 0} {R : Order K} where
  -- the table after the edits, one after the other
  unfoldable pub table_after : Table R V → List (KeyEdit K V) → Table R V
  table_after t [] = t
  table_after t (e ∷ es) = table_after (changed t e.key e.value) es
