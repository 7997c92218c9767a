-- Nets and name rows, however their names are held.
use Rattle.std.specs.Prelude.{◌≡◌, ℕ, ◌+◌, List, ◌∷◌, drop}
use Rattle.kfs_types.specs.declared.plan.NameRow.{NameRow}
use Rattle.kfs_maps.specs.declared.chunks.entries.KeyEdit.{KeyEdit}
use Rattle.kfs_image_nodes.specs.NameEdits.{name_edit}
use Rattle.kfs_image_nodes.specs.declared.net.LentNet.{LentNet}
use Rattle.kfs_image_nodes.specs.declared.net.LentNet.TheVariants as nets
use Rattle.kfs_image_nodes.specs.declared.net.NameRows.{NameRows}
use Rattle.kfs_image_nodes.specs.declared.net.NameRows.TheVariants as rows
use Rattle.kfs_image_nodes.specs.declared.net.Net.{Net}

-- the net
abbrev pub net_in : {A : Type 0} → LentNet A → Net A (List ℕ)
net_in (nets.Owned net) = net.now
net_in (nets.Borrowed net) = net.now
net_in (nets.Kept net) = net.now

-- the rows
abbrev pub rows_in : {A : Type 0} → NameRows A → List (NameRow (List ℕ))
rows_in (rows.Owned list) = list.now
rows_in (rows.Borrowed list) = list.now
rows_in (rows.Kept list) = list.now

-- both nets have the same rows
pub record IsSameNet {A : Type 0} (net other : Net A (List ℕ)) : Type 0 where
  pub names : other.names.items ≡ net.names.items
  pub nodes : other.nodes ≡ net.nodes

-- the edit is that of the row at the index
pub record IsEditAt (list : List (NameRow (List ℕ))) (index : ℕ) (edit : KeyEdit (ℕ × List ℕ) ℕ) : Type 0 where
  pub row : NameRow (List ℕ)
  pub next : drop index list ≡ row ∷ drop (index + 1) list
  pub is : edit ≡ name_edit row
