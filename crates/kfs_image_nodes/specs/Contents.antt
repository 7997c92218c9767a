-- A shape in contracts.
use Rattle.std.specs.Prelude.{ℕ}
use Rattle.kfs_model.specs.Header.{Header}
use Rattle.kfs_model.specs.Table.{Table, numbers}
use Rattle.kfs_model.specs.Tree.{Tree, NameTable, headers}
use Rattle.kfs_model.specs.Fresh.{fresh_tree}
use Rattle.kfs_model.specs.Sight.{Sight, sight_over}

-- the nodes and names of a tree, without its bytes
pub record Contents : Type 0 where
  pub heads : Table numbers Header
  pub names : NameTable

-- the cells of these nodes and names
abbrev pub sight_of : Contents → Sight
sight_of c = sight_over c.heads c.names

-- the nodes and names of a tree
abbrev pub contents_in : {B : Type 0} → Tree B → Contents
contents_in t = record { heads = headers t; names = t.names }

-- the nodes and names of a new image: the root alone
abbrev pub root_alone : Contents
root_alone = contents_in (fresh_tree {B = ℕ})
