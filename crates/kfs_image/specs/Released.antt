-- The runs of blocks that a landing unmaps.
use Rattle.std.specs.Prelude.{◌≡◌, ◌-◌, ◌^◌, List, min, option_map}
use Rattle.kfs_types.specs.declared.entry.Header.{Header as CodeHeader}
use Rattle.kfs_types.specs.declared.plan.NodeRow.{NodeRow}
use Rattle.kfs_types.specs.Views.{header_of}
use Rattle.kfs_maps.specs.declared.pages.change.NumberEdit.{NumberEdit}
use Rattle.kfs_model.specs.Device.ShownTree.{DeviceImage, IsLawful}
use Rattle.kfs_image.specs.declared.blocks.fill.BlockRun.{BlockRun}
use Rattle.kfs_image.specs.Blocks.Fill.{less}
use Rattle.kfs_image_nodes.specs.Change.{reheaded}
use Rattle.kfs_image.specs.Net.{blocks_in, cut}

-- the blocks of a node behind the end of its file
abbrev pub behind : NumberEdit CodeHeader → BlockRun
behind e = record { number = e.number; first = min (blocks_in (option_map header_of e.value)) (2 ^ 32 - 1); end = 2 ^ 32 - 1 }

-- from a lawful image's placement these runs remove the blocks that become zero, and the blocks that
-- the files don't have after the rows, and no others
abbrev pub AreReleased : List NodeRow → (zero released : List BlockRun) → Type 0
AreReleased nodes zero released = (image : DeviceImage) → IsLawful image → less released image.placement ≡ cut (reheaded image.heads nodes) (less zero image.placement)
