-- An image from bytes: what they decode to, and whether it breaks a rule.
use Rattle.std.specs.Prelude.{◌≡◌, ◌⊎◌, ℕ, List, ◌++◌, codes, Option, Some, None, Ok, Err}
use Rattle.kfs_model.specs.Device.ShownTree.{DeviceImage}
use Rattle.kfs_model.specs.Device.RawImage.{RawImage, image_of}
use Rattle.kfs_model.specs.Device.Finding.{Finding, IsWellFormed, finding_of}
use Rattle.kfs_model.specs.Device.Spelling.{ImageSpellingFault, ImageAnswer, BadImageHeader, ImageTrailing, BadImageRow}
use Rattle.kfs_image.specs.declared.codec.raw.RawImage.{RawImage as CodeRawImage}
use Rattle.kfs_image.specs.Codec.RawImages.{raw_of}
use Rattle.kfs_program_text.specs.Parts.{line_of, numbered_text}
use Rattle.kfs_program.specs.Report.{finding_text}

-- the bytes decode to rows that break no rule, and this is their image
pub record IsLoaded (bytes : List ℕ) (image : DeviceImage) : Type 0 where
  pub raw : RawImage
  pub read : ImageAnswer bytes (Ok raw)
  pub well_formed : IsWellFormed raw
  pub is : image ≡ image_of raw

-- the bytes decode to rows with this finding
pub record IsBroken (bytes : List ℕ) (finding : Finding) : Type 0 where
  pub raw : RawImage
  pub read : ImageAnswer bytes (Ok raw)
  pub found : finding_of raw ≡ Some finding

-- why bytes decode to no image
abbrev pub spelling_text : ImageSpellingFault → List ℕ
spelling_text BadImageHeader = codes "BadImageHeader"
spelling_text (BadImageRow row) = numbered_text (codes "BadImageRow") row
spelling_text ImageTrailing = codes "ImageTrailing"

-- the line says why the bytes make no image: they decode to none, or what they decode to breaks a rule
abbrev pub SaysWhyNot : (bytes line : List ℕ) → Type 0
SaysWhyNot bytes line =
    ((fault : ImageSpellingFault) × ImageAnswer bytes (Err fault) × (line ≡ codes "image " ++ spelling_text fault))
    ⊎ ((finding : Finding) × IsBroken bytes finding × (line ≡ finding_text finding.rule finding.number))

-- the line is `ok` beside the image of the bytes, or says why there is none
abbrev pub LoadsWith : (bytes : List ℕ) → Option DeviceImage → (line : List ℕ) → Type 0
LoadsWith bytes (Some image) line = IsLoaded bytes image × (line ≡ codes "ok")
LoadsWith bytes None line = SaysWhyNot bytes line

-- a line is appended, and this holds of it
abbrev pub AppendsLine : (before after : List ℕ) → (List ℕ → Type 0) → Type 0
AppendsLine before after Holds = (line : List ℕ) × (after ≡ before ++ line_of line) × Holds line

module _ {A : Type 0} where
  -- these are the rows that the bytes decode to, and nothing is appended; or there are none, and a line says why
  abbrev pub AreRead : (bytes before after : List ℕ) → Option (CodeRawImage A) → Type 0
  AreRead bytes before after (Some raw) = ImageAnswer bytes (Ok (raw_of raw)) × (after ≡ before)
  AreRead bytes before after None = AppendsLine before after (SaysWhyNot bytes)

  -- the same of rows that break no rule
  abbrev pub AreSound : (bytes before after : List ℕ) → Option (CodeRawImage A) → Type 0
  AreSound bytes before after (Some raw) = ImageAnswer bytes (Ok (raw_of raw)) × IsWellFormed (raw_of raw) × (after ≡ before)
  AreSound bytes before after None = AppendsLine before after (SaysWhyNot bytes)
