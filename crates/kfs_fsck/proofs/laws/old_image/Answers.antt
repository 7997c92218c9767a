use Rattle.kfs_model.specs.Device.RawImage.{image_of}
use Rattle.kfs_fsck.proofs.SavedImages.{read_again, lawful_image}
use Rattle.kfs_fsck.proofs.laws.old_image.Goals as goal

pub returns : goal.returns
returns c bytes raw answer version well_formed = read_again (image_of raw) (lawful_image raw answer.0 well_formed)
