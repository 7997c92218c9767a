-- The tree of nodes and names. What a file's content consists of is a parameter: bytes, or marks that
-- say where bytes come from.
use Rattle.std.specs.Prelude.{ℕ, Bool, ◌==◌, List, [], length, Option, Some, None, count_by}
use Rattle.std.specs.List.{list_any}
use Rattle.kfs_model.specs.Header.{Kind, Header}
use Rattle.kfs_model.specs.Header.Kind.{File, Directory}
use Rattle.kfs_model.specs.Table.{Table, numbers, byte_order, pairs, get, mapped, Order}

-- the body of a node: a file has its content, in order; a directory has none, since its names are in
-- the tree
pub data Body (B : Type 0) : Type 0 where
  FileBody : List B → Body B
  DirectoryBody : Body B

pub record Node (B : Type 0) : Type 0 where
  pub mode : ℕ
  pub uid : ℕ
  pub gid : ℕ
  pub body : Body B

-- the order of names: by directory, then by the name's bytes
abbrev pub name_order : Order (ℕ × List ℕ)
name_order = pairs numbers byte_order

pub record Tree (B : Type 0) : Type 0 where
  pub nodes : Table numbers (Node B)
  pub names : Table name_order ℕ

module _ {B : Type 0} where
  abbrev pub kind_of : Body B → Kind
  kind_of (FileBody content) = File
  kind_of DirectoryBody = Directory

  -- the size of a body: a file's length, 0 for a directory
  abbrev pub size_of : Body B → ℕ
  size_of (FileBody content) = length content
  size_of DirectoryBody = 0

-- The names alone determine these, whatever files contain.
abbrev pub NameTable : Type 0
NameTable = Table name_order ℕ

-- the number that the name leads to
abbrev pub target : NameTable → ℕ → List ℕ → Option ℕ
target names directory name = get names (directory, name)

-- how many names lead to the node
abbrev pub name_count : NameTable → ℕ → ℕ
name_count names number = count_by (λ e. e.1 == number) names.entries

-- how many names stand in the directory
abbrev pub entry_count : NameTable → ℕ → ℕ
entry_count names directory = count_by (λ e. e.0.0 == directory) names.entries

abbrev pub is_named : NameTable → ℕ → Bool
is_named names number = list_any (λ e. e.1 == number) names.entries

module _ {B : Type 0} where
  -- the links of a node: 1 for a directory, the number of its names for a file
  abbrev pub links_of : NameTable → ℕ → Body B → ℕ
  links_of names number (FileBody content) = name_count names number
  links_of names number DirectoryBody = 1

  abbrev pub node_header : NameTable → ℕ → Node B → Header
  node_header names number node = record {
    kind = kind_of node.body;
    mode = node.mode;
    uid = node.uid;
    gid = node.gid;
    links = links_of names number node.body;
    size = size_of node.body;
  }

  abbrev pub headers : Tree B → Table numbers Header
  headers t = mapped (node_header t.names) t.nodes

  -- the content of a file; empty for a directory and where there is no node
  abbrev pub content_of : Option (Node B) → List B
  content_of None = []
  content_of (Some node) = body_content node.body
    where
      body_content : Body B → List B
      body_content (FileBody content) = content
      body_content DirectoryBody = []

-- A tree made from headers; `content` gives each file's content, by its number and size.
module _ {B : Type 0} (content : (number size : ℕ) → List B) where
  abbrev pub body_over : (number : ℕ) → Kind → (size : ℕ) → Body B
  body_over number File size = FileBody (content number size)
  body_over number Directory size = DirectoryBody

  abbrev pub node_over : (number : ℕ) → Header → Node B
  node_over number h = record { mode = h.mode; uid = h.uid; gid = h.gid; body = body_over number h.kind h.size }

  -- the tree with these headers and these names
  abbrev pub tree_over : Table numbers Header → NameTable → Tree B
  tree_over heads names = record { nodes = mapped node_over heads; names = names }
