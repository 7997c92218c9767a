-- Extents whose bytes are spans of the source, as values of the definitions.
use Rattle.std.specs.Prelude.{ℕ, ◌≤◌, List}
use Rattle.kfs_types.specs.Views.{span_bytes}
use Rattle.kfs_model.specs.Device.RawImage.{ExtentRow}
use Rattle.kfs_image.specs.declared.codec.extent.SpannedExtent.{SpannedExtent}

-- the extent, with the bytes of its span
abbrev pub extent_in : List ℕ → SpannedExtent → ExtentRow
extent_in source row = record {
  number = row.number;
  block = row.extent.block;
  tier = row.extent.tier;
  place = row.extent.place;
  count = row.extent.count;
  bytes = span_bytes source row.bytes;
}

-- the extent's span lies in a source of this length
abbrev pub IsInSource : (len : ℕ) → SpannedExtent → Type 0
IsInSource len row = (row.bytes.start ≤ row.bytes.end) × (row.bytes.end ≤ len)
