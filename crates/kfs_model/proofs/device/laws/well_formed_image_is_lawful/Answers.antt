use Rattle.kfs_model.proofs.DeviceLemmas.SoundImage.{heads_counted, tree_sound}
use Rattle.kfs_model.proofs.DeviceLemmas.LaidOut.{extents_placed, blocks_written}
use Rattle.kfs_model.proofs.device.laws.well_formed_image_is_lawful.Goals as goal

pub returns : goal.returns
returns c raw spelled well_formed = record {
  sizes = spelled.sizes;
  tree = record { sound = tree_sound raw well_formed spelled; counted = heads_counted raw well_formed };
  placed = extents_placed raw well_formed;
  blocks = blocks_written raw well_formed;
}
