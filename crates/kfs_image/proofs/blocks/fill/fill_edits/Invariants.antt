use Rattle.std.proofs.Common.{◌≡◌, drop}
use Rattle.kfs_model.specs.Table.{pairs, numbers}
use Rattle.kfs_maps.specs.Chunks.Tables.{table}
use Rattle.kfs_image.specs.Blocks.Fill.{less}
use Rattle.kfs_image.specs.Blocks.Walks.{seen, SeesMapped}
use Rattle.kfs_image.proofs.blocks.fill.fill_edits.Given as goal

-- the runs that are left make of what is seen so far what all runs make
abbrev pub invariant-loop-run : goal.invariant-loop-run
invariant-loop-run g l = record {
  less : less (drop l.run-index l.released) (seen l.overlay l.placement) ≡ less l.released (table (pairs numbers numbers) l.placement);
  sees : SeesMapped l.placement l.overlay;
}
