-- What is asked of an extent, given the one before it.
use Rattle.std.specs.Prelude.{◌+◌, ◌*◌, ◌==◌, ◌&&◌, ◌||◌, not, nat_le, Bool, true, length, Option, Some, None}
use Rattle.kfs_model.specs.Header.{Header}
use Rattle.kfs_model.specs.Limits.{block_size}
use Rattle.kfs_model.specs.Table.{numbers, pairs}
use Rattle.kfs_model.specs.Device.RawImage.{ExtentRow}
use Rattle.kfs_model.specs.Device.Rules.{is_above, ends_in_file}

-- whether the extent begins where the one before ends, or later, or is of another file
abbrev pub is_behind : Option ExtentRow → ExtentRow → Bool
is_behind None row = true
is_behind (Some other) row = not (other.number == row.number) || nat_le (other.block + other.count) row.block

-- whether the extent has blocks, and all their bytes
abbrev pub is_full : ExtentRow → Bool
is_full row = nat_le 1 row.count && (length row.bytes == row.count * block_size)

-- whether the extent is of blocks of a file, given its file's header, and comes after the row before
-- without sharing a block
abbrev pub is_in_place : Option Header → Option ExtentRow × ExtentRow → Bool
is_in_place head e = is_above (pairs numbers numbers) (λ row. (row.number, row.block)) e && ends_in_file head e.1 && is_full e.1 && is_behind e.0 e.1
