-- What overlays of names and counts show over the maps.
use Rattle.std.specs.Prelude.{◌≡◌, ℕ, All, List, Option, map}
use Rattle.kfs_types.specs.declared.plan.NameRow.{NameRow}
use Rattle.kfs_model.specs.Spelling.{IsName}
use Rattle.kfs_model.specs.Table.{Table, numbers}
use Rattle.kfs_model.specs.Tree.{NameTable, name_order}
use Rattle.kfs_maps.specs.Pages.Edits as numbered
use Rattle.kfs_maps.specs.declared.chunks.entries.KeyEdit.{KeyEdit}
use Rattle.kfs_maps.specs.Chunks.Edits as keyed
use Rattle.kfs_maps.specs.Chunks.Tables.{table, table_after}
use Rattle.kfs_image_nodes.specs.declared.name_edits.NameEdits.{NameEdits}
use Rattle.kfs_image_nodes.specs.declared.name_edits.Overlays.{Overlays}
use Rattle.kfs_image_nodes.specs.declared.tallies.CountEdits.{CountEdits}
use Rattle.kfs_image_nodes.specs.declared.tallies.Tallies.{Tallies}
use Rattle.kfs_image_nodes.specs.Change.{led_to, renamed}
use Rattle.kfs_image_nodes.specs.Indexes.{AreNames, IsCounted, AreInPages, ArePositive, CountsMoved, by_node, count_step, uplink_step}
use Rattle.kfs_maps.specs.Chunks.Overlays.{overlaid}

-- the edit of the names that a row makes
abbrev pub name_edit : NameRow (List ℕ) → KeyEdit (ℕ × List ℕ) ℕ
name_edit row = record { key = (row.dir, row.name); value = led_to row.number }

-- the edits are those of the rows, their keys ascend, and each is of a valid name
pub record AreRowsInOrder (rows : List (NameRow (List ℕ))) (edits : List (KeyEdit (ℕ × List ℕ) ℕ)) : Type 0 where
  pub made : edits ≡ map name_edit rows
  pub ascend : keyed.KeysAscend name_order.compare edits
  pub named : All (λ e. IsName e.key.1) edits

module _ {A : Type 0} where
  -- the names that the overlays show
  abbrev pub names_seen : Overlays A → List ((ℕ × List ℕ) × ℕ) → NameTable
  names_seen said names = overlaid (table name_order names) said.names.latest.entries

  -- the counts of directories that they show
  abbrev pub counts_seen : Tallies A → Table numbers ℕ → Table numbers ℕ
  counts_seen said counts = overlaid counts said.counts.latest.entries

  -- the counts of uplinks that they show
  abbrev pub ways_seen : Tallies A → List ((ℕ × ℕ) × ℕ) → Table by_node ℕ
  ways_seen said uplinks = overlaid (table by_node uplinks) said.uplinks.latest.entries

  -- the counts that they show are right for the names that they show
  abbrev pub IsCountedOver : (names : List ((ℕ × List ℕ) × ℕ)) (counts : Table numbers ℕ) (uplinks : List ((ℕ × ℕ) × ℕ)) → Overlays A → Type 0
  IsCountedOver names counts uplinks said = IsCounted (names_seen said names) (counts_seen said.tallies counts) (ways_seen said.tallies uplinks)

  -- the names after the edits
  abbrev pub names_edited : List ((ℕ × List ℕ) × ℕ) → NameEdits A → NameTable
  names_edited names edits = table name_order (keyed.rewritten name_order names edits.names.items)

  -- the counts of directories after the edits
  abbrev pub counts_edited : Table numbers ℕ → NameEdits A → Table numbers ℕ
  counts_edited counts edits = numbered.rewritten counts edits.counts.items

  -- the counts of uplinks after the edits
  abbrev pub ways_edited : List ((ℕ × ℕ) × ℕ) → NameEdits A → Table by_node ℕ
  ways_edited uplinks edits = table by_node (keyed.rewritten by_node uplinks edits.uplinks.items)

  -- the counts after the edits are right for the names after them, if each directory that has a name,
  -- before or after, has a number that pages have
  abbrev pub IsCountedAfter : (names : List ((ℕ × List ℕ) × ℕ)) (counts : Table numbers ℕ) (uplinks : List ((ℕ × ℕ) × ℕ)) → NameEdits A → Type 0
  IsCountedAfter names counts uplinks edits =
      AreInPages (table name_order names) → AreInPages (names_edited names edits) → IsCounted (names_edited names edits) (counts_edited counts edits) (ways_edited uplinks edits)

  -- the edits of the counts ascend, and make them right for the names after these edits of the names
  pub record AreCountEdits (names : List ((ℕ × List ℕ) × ℕ)) (counts : Table numbers ℕ) (uplinks : List ((ℕ × ℕ) × ℕ)) (renames : List (KeyEdit (ℕ × List ℕ) ℕ)) (edits : CountEdits A) : Type 0 where
    pub counts_ascend : numbered.AreEdits edits.counts.items
    pub uplinks_ascend : keyed.KeysAscend by_node.compare edits.uplinks.items
    pub counted : AreInPages (table name_order names) → AreInPages (table_after (table name_order names) renames)
        → IsCounted (table_after (table name_order names) renames) (numbered.rewritten counts edits.counts.items) (table by_node (keyed.rewritten by_node uplinks edits.uplinks.items))

  -- the edits of the counts ascend, and count a name of the directory that led to `from` and now leads to `to`
  pub record AreMovedBy (counts : Table numbers ℕ) (uplinks : List ((ℕ × ℕ) × ℕ)) (directory : ℕ) (from to : Option ℕ) (edits : CountEdits A) : Type 0 where
    pub counts_ascend : numbered.AreEdits edits.counts.items
    pub uplinks_ascend : keyed.KeysAscend by_node.compare edits.uplinks.items
    pub positive : ArePositive (table by_node uplinks) → ArePositive (table by_node (keyed.rewritten by_node uplinks edits.uplinks.items))
    pub counts_moved : CountsMoved counts (count_step directory from) (count_step directory to) (numbered.rewritten counts edits.counts.items)
    pub uplinks_moved : CountsMoved (table by_node uplinks) (uplink_step directory from) (uplink_step directory to) (table by_node (keyed.rewritten by_node uplinks edits.uplinks.items))

  -- the edits ascend, and make of the names what the rows make, and of the counts what is right then
  pub record AreEditsOf (names : List ((ℕ × List ℕ) × ℕ)) (counts : Table numbers ℕ) (uplinks : List ((ℕ × ℕ) × ℕ)) (rows : List (NameRow (List ℕ))) (edits : NameEdits A) : Type 0 where
    pub names_ascend : keyed.KeysAscend name_order.compare edits.names.items
    pub counts_ascend : numbered.AreEdits edits.counts.items
    pub uplinks_ascend : keyed.KeysAscend by_node.compare edits.uplinks.items
    pub make : names_edited names edits ≡ renamed (table name_order names) rows
    pub named : AreNames (table name_order names) → AreNames (names_edited names edits)
    pub counted : IsCountedAfter names counts uplinks edits
