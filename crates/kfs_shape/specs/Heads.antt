-- The code's map of the headers of node rows.
use Rattle.std.specs.Prelude.{◌≡◌, ℕ, Option}
use Rattle.std.specs.Option.{option_map}
use Rattle.kfs_types.specs.declared.entry.Header.{Header as CodeHeader}
use Rattle.kfs_types.specs.Views.{header_of}
use Rattle.kfs_model.specs.Header.{Header}
use Rattle.kfs_model.specs.Table.{Table, numbers, get}
use Rattle.kfs_model.specs.Device.RawImage.{heads_of}
use Rattle.kfs_image.specs.declared.codec.raw.RawImage.{RawImage as CodeRawImage}
use Rattle.kfs_image.specs.Codec.RawImages.{raw_of}

-- the header that the map has at a number
abbrev pub head_at : Table numbers CodeHeader → (number : ℕ) → Option Header
head_at headers number = option_map header_of (get headers number)

-- the map has at each number the header that the node rows give it
abbrev pub ShowsHeads : {A : Type 0} → Table numbers CodeHeader → CodeRawImage A → Type 0
ShowsHeads headers raw = (number : ℕ) → head_at headers number ≡ get (heads_of (raw_of raw)) number
