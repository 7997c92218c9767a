use Rattle.std.proofs.Common.{take}
use Rattle.kfs_model.specs.Tree.{name_order}
use Rattle.kfs_maps.specs.Chunks.Tables.{table, table_after}
use Rattle.kfs_image_nodes.specs.Indexes.{IsCounted}
use Rattle.kfs_image_nodes.specs.NameEdits.{counts_seen, ways_seen}
use Rattle.kfs_image_nodes.proofs.name_edits.recounted.Given as goal

-- the counts fit the names after the edits so far
abbrev pub invariant-loop-edit : goal.invariant-loop-edit
invariant-loop-edit g l = IsCounted (table_after (table name_order l.names) (take l.edit-index l.edits)) (counts_seen l.tallies l.counts) (ways_seen l.tallies l.uplinks)
