-- Why the checker lets no image in.
use Rattle.std.specs.Prelude.{◌≡◌, Some}
use Rattle.kfs_model.specs.Device.Finding.{finding_of}
use Rattle.kfs_image.specs.declared.codec.raw.RawImage.{RawImage as CodeRawImage}
use Rattle.kfs_image.specs.Codec.RawImages.{raw_of}
use Rattle.kfs_shape.specs.Findings.{finding_shown}
use Rattle.kfs_fsck.specs.declared.fault.FsckFault.{FsckFault}
use Rattle.kfs_fsck.specs.declared.fault.FsckFault.TheVariants.{Found, OutOfMemory}

module _ {A : Type 0} where
  -- the fault names the raw image's finding, or gives the raw image back as it was
  abbrev pub Tells : CodeRawImage A → FsckFault A → Type 0
  Tells raw (Found finding) = finding_of (raw_of raw) ≡ Some (finding_shown finding)
  Tells raw (OutOfMemory back) = back ≡ raw
