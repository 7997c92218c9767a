-- The decoder of images as a function, for proofs: what a reader finds at the front of bytes, a value and
-- the bytes after it, or none.
use Rattle.std.specs.Prelude.{ℕ, ◌*◌, List, [], ◌∷◌, Option, Some, None, nat_lt, nat_le, if◌then◌else◌}
use Rattle.kfs_model.specs.Steps.{◌>>=◌}
use Rattle.kfs_model.proofs.Reading.{◌&◌, made, byte_read, number16_read, number32_read, number64_read, bytes_read, kind_read, mark_read, version_read}
use Rattle.kfs_model.specs.Device.RawImage.{RawNode, ExtentRow}
use Rattle.kfs_model.specs.Device.Spelling.{ImageHeader}

-- a number of four bytes, at most this one
unfoldable pub limited_read : (limit : ℕ) → List ℕ → Option (ℕ × List ℕ)
limited_read limit bytes = number32_read bytes >>= λ n. if nat_le n.0 limit then Some n else None

unfoldable pub tier_read : List ℕ → Option (ℕ × List ℕ)
tier_read bytes = byte_read bytes >>= λ n. if nat_le n.0 2 then Some n else None

-- so many blocks
abbrev pub run_read : (count : ℕ) → List ℕ → Option ((ℕ × List ℕ) × List ℕ)
run_read count bytes = if nat_lt count 1 then None else bytes_read (count * 4096) bytes >>= λ run. Some ((count, run.0), run.1)

-- the count of blocks, and the blocks
unfoldable pub blocks_read : List ℕ → Option ((ℕ × List ℕ) × List ℕ)
blocks_read bytes = limited_read 65536 bytes >>= λ count. run_read count.0 count.1

unfoldable pub raw_node_read : List ℕ → Option (RawNode × List ℕ)
raw_node_read bytes =
    made (λ f. record { number = f.0.0.0.0.0.0; header = record { kind = f.0.0.0.0.0.1; mode = f.0.0.0.0.1; uid = f.0.0.0.1; gid = f.0.0.1; links = f.0.1; size = f.1 } })
    (number32_read & kind_read & number16_read & number32_read & number32_read & number16_read & number64_read) bytes

unfoldable pub extent_read : List ℕ → Option (ExtentRow × List ℕ)
extent_read bytes =
    made (λ f. record { number = f.0.0.0.0; block = f.0.0.0.1; tier = f.0.0.1; place = f.0.1; count = f.1.0; bytes = f.1.1 })
    (number32_read & limited_read 1048575 & tier_read & limited_read 65535 & blocks_read) bytes

unfoldable pub image_header_read : List ℕ → Option (ImageHeader × List ℕ)
image_header_read bytes =
    made (λ f. record { version = f.0.0.0.0.0.0.1; sizes = record { first = f.0.0.0.0.0.1; second = f.0.0.0.0.1; third = f.0.0.0.1 }; nodes = f.0.0.1; names = f.0.1; extents = f.1 })
    (mark_read (75 ∷ 73 ∷ 77 ∷ 71 ∷ []) & version_read & limited_read 65536 & limited_read 65536 & limited_read 65536 & number32_read & number32_read & number32_read) bytes
