-- The tables that the rows of a shape show.
use Rattle.std.specs.Prelude.{ℕ}
use Rattle.kfs_types.specs.declared.entry.Header.{Header as CodeHeader}
use Rattle.kfs_types.specs.Views.{header_of}
use Rattle.kfs_model.specs.Header.{Header}
use Rattle.kfs_model.specs.Table.{Table, numbers, mapped}
use Rattle.kfs_model.specs.Tree.{NameTable, name_order}
use Rattle.kfs_maps.specs.Chunks.Tables.{table}
use Rattle.kfs_image_nodes.specs.declared.rows.NodeTables.{NodeTables}
use Rattle.kfs_image_nodes.specs.Indexes.{by_node, AreNames, AreInPages, IsCounted}
use Rattle.kfs_image_nodes.specs.NodeEdits.{AreNumbered}

-- the headers as values of the definitions
abbrev pub heads_of : Table numbers CodeHeader → Table numbers Header
heads_of headers = mapped (λ number header. header_of header) headers

-- each node, and each directory that has a name, has a number that pages have
abbrev pub FitPages : Table numbers Header → NameTable → Type 0
FitPages heads names = AreNumbered heads × AreInPages names

module _ {A : Type 0} where
  abbrev pub heads_in : NodeTables A → Table numbers Header
  heads_in rows = heads_of rows.headers

  abbrev pub names_in : NodeTables A → NameTable
  names_in rows = table name_order rows.names

  -- the counts of uplinks
  abbrev pub ways_in : NodeTables A → Table by_node ℕ
  ways_in rows = table by_node rows.uplinks

  -- each name is a valid name, and the counts are right for the names
  pub record CountsAreExact (rows : NodeTables A) : Type 0 where
    pub names : AreNames (names_in rows)
    pub counted : IsCounted (names_in rows) rows.counts (ways_in rows)
