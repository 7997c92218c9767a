-- Byte ranges of files in order, and one list of them laid over another.
use Rattle.std.specs.Prelude.{ℕ, ◌<◌, ◌==◌, ◌&&◌, ◌||◌, nat_le, nat_lt, Bool, List, [], ◌∷◌, ◌++◌, Option, Some, None, if◌then◌else◌}
use Rattle.kfs_model.specs.Table.{option_or}
use Rattle.kfs_model.specs.Plan.{ComesBy}
use Rattle.kfs_pieces.specs.declared.merge.Origin.{Origin}
use Rattle.kfs_pieces.specs.declared.merge.ByteRange.{ByteRange}

abbrev pub has_byte : (number place : ℕ) → ByteRange → Bool
has_byte n p s = (s.number == n) && nat_le s.start p && nat_lt p s.end

-- what made the byte; none where the byte is in no range
abbrev pub origin_at : List ByteRange → (number place : ℕ) → Option Origin
origin_at [] n p = None
origin_at (s ∷ ss) n p = if has_byte n p s then Some s.origin else origin_at ss n p

-- the ranges ascend from this byte on, don't overlap, and none is empty
abbrev pub AreFrom : (number place : ℕ) → List ByteRange → Type 0
AreFrom n p [] = Unit {0}
AreFrom n p (s ∷ ss) = ComesBy n p s.number s.start × (s.start < s.end) × AreFrom s.number s.end ss

-- whether the range ends at the byte or before it
abbrev pub ends_by : (number place : ℕ) → ByteRange → Bool
ends_by n p s = nat_lt s.number n || ((s.number == n) && nat_le s.end p)

-- whether the range begins before the byte
abbrev pub begins_before : (number place : ℕ) → ByteRange → Bool
begins_before n p s = (s.number == n) && nat_lt s.start p

-- the parts of the ranges before the byte
unfoldable pub cut_below : (number place : ℕ) → List ByteRange → List ByteRange
cut_below n p [] = []
cut_below n p (s ∷ ss) = if ends_by n p s then s ∷ cut_below n p ss else if begins_before n p s then record s { end = p } ∷ [] else []

-- the parts of the ranges from the byte on
unfoldable pub cut_from : (number place : ℕ) → List ByteRange → List ByteRange
cut_from n p [] = []
cut_from n p (s ∷ ss) = if ends_by n p s then cut_from n p ss else if begins_before n p s then record s { start = p } ∷ ss else s ∷ ss

-- the second list laid over the first
unfoldable pub merged : (lower upper : List ByteRange) → List ByteRange
merged lower [] = lower
merged lower (u ∷ us) = cut_below u.number u.start lower ++ u ∷ merged (cut_from u.number u.end (cut_from u.number u.start lower)) us

-- what made the byte in the last of the ranges that have it
abbrev pub last_origin : List ByteRange → (number place : ℕ) → Option Origin
last_origin [] n p = None
last_origin (s ∷ ss) n p = option_or (last_origin ss n p) (if has_byte n p s then Some s.origin else None)
