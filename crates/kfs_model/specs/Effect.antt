-- What an entry without a failed check does to the tree (POSIX.1-2017: open, write, ftruncate, link,
-- unlink and rmdir, rename, chmod, chown).
use Rattle.std.specs.Prelude.{ℕ, ◌+◌, ◌-◌, ◌==◌, ◌||◌, true, false, List, [], ◌∷◌, ◌++◌, length, take, drop, replicate, Option, Some, None}
use Rattle.kfs_model.specs.Header.{Kind, File, Directory}
use Rattle.kfs_model.specs.Limits.{root_number}
use Rattle.kfs_model.specs.Access.{Client}
use Rattle.kfs_model.specs.Table.{get, insert, remove, retain}
use Rattle.kfs_model.specs.Tree.{Tree, Node, Body, FileBody, DirectoryBody, NameTable, target, is_named}
use Rattle.kfs_model.specs.Entry.{Entry, Create, Write, Truncate, Link, Unlink, Rename, Chmod, Regroup}

-- what new content is made of: the filler of a gap, and the payload of the entry with this index
pub record Filling (B : Type 0) : Type 0 where
  pub gap : B
  pub payload : (entry : ℕ) → List ℕ → List B

module _ {B : Type 0} (filling : Filling B) where
  -- the content, made at least this long by a gap at its end
  abbrev pub lengthened : ℕ → List B → List B
  lengthened size content = content ++ replicate (size - length content) filling.gap

  -- the content with the payload written at the offset; a gap fills the space between the old end and
  -- the offset
  unfoldable pub overwritten : (offset : ℕ) → (payload content : List B) → List B
  overwritten offset [] content = content
  overwritten offset (b ∷ bs) content = take offset (lengthened offset content) ++ (b ∷ bs) ++ drop (offset + length (b ∷ bs)) content

  -- the content made exactly this long: cut, or with a gap at its end
  unfoldable pub resized : ℕ → List B → List B
  resized size content = take size (lengthened size content)

  abbrev pub new_body : Kind → Body B
  new_body File = FileBody []
  new_body Directory = DirectoryBody

  abbrev pub on_content : (List B → List B) → Body B → Body B
  on_content change (FileBody content) = FileBody (change content)
  on_content change DirectoryBody = DirectoryBody

module _ {B : Type 0} where
  -- the tree with the node changed, if there is such a node
  abbrev pub changed_node : (Node B → Node B) → ℕ → Tree B → Tree B
  changed_node change n t = elim (get t.nodes n) [ None ↦ t | Some node ↦ record { nodes = insert t.nodes n (change node); names = t.names } ]

  abbrev pub with_names : NameTable → Tree B → Tree B
  with_names names t = record { nodes = t.nodes; names = names }

  -- the tree without nodes that have no name, the root aside
  unfoldable pub without_unnamed : Tree B → Tree B
  without_unnamed t = record { nodes = retain (λ n. (n == root_number) || is_named t.names n) t.nodes; names = t.names }

-- the old name is removed and the new one leads to its node; nothing changes where both lead to one
-- node
abbrev pub moved_name : NameTable → (d : ℕ) → (m : List ℕ) → (e : ℕ) → (k : List ℕ) → NameTable
moved_name names d m e k = elim (target names d m) [ None ↦ names | Some s ↦ to_new s (target names e k) ]
  where
    move : ℕ → NameTable
    move s = insert (remove names (d, m)) (e, k) s

    to_new : ℕ → Option ℕ → NameTable
    to_new s None = move s
    to_new s (Some t) = elim (s == t) [ true ↦ names | false ↦ move s ]

module _ {B : Type 0} (filling : Filling B) (client : Client) where
  -- the change that the entry with this index makes, before nodes without a name are removed
  unfoldable pub change_of : (index : ℕ) → Entry → Tree B → Tree B
  change_of index (Create d m n kind mode) t = record {
    nodes = insert t.nodes n (record { mode = mode; uid = client.uid; gid = client.gid; body = new_body filling kind });
    names = insert t.names (d, m) n;
  }
  change_of index (Write n offset payload) t = changed_node (λ node. record node { body = on_content filling (overwritten filling offset (filling.payload index payload)) node.body }) n t
  change_of index (Truncate n size) t = changed_node (λ node. record node { body = on_content filling (resized filling size) node.body }) n t
  change_of index (Link n d m) t = with_names (insert t.names (d, m) n) t
  change_of index (Unlink d m kind) t = with_names (remove t.names (d, m)) t
  change_of index (Rename d m e k) t = with_names (moved_name t.names d m e k) t
  change_of index (Chmod n mode) t = changed_node (λ node. record node { mode = mode }) n t
  change_of index (Regroup n group) t = changed_node (λ node. record node { gid = group }) n t

  abbrev pub effect : (index : ℕ) → Entry → Tree B → Tree B
  effect index entry t = without_unnamed (change_of index entry t)
