use Rattle.std.proofs.Common.{◌^◌}
use Rattle.kfs_model.specs.Table.{get}
use Rattle.kfs_model.proofs.Heads.{root_has_none}
use Rattle.kfs_model.specs.Device.RawImage.{heads_of, names_of}
use Rattle.kfs_model.specs.Device.Rules.{parent_of}
use Rattle.kfs_image.specs.Codec.RawImages.{raw_of}
use Rattle.kfs_shape.proofs.Doubling.{LeadsBy}
use Rattle.kfs_shape.proofs.climbs.tops.Given as goal

abbrev pub invariant-loop : goal.invariant-loop
invariant-loop g l =
    let raw = raw_of l.raw in
    LeadsBy (parent_of raw) (root_has_none (get (heads_of raw)) (names_of raw)) (2 ^ l.counter) l.ancestors.items
