-- How many byte ranges there are, and at how many places they begin or end.
use Rattle.std.specs.Prelude.{ℕ, ◌+◌, ◌==◌, ◌&&◌, nat_lt, List, [], ◌∷◌, if◌then◌else◌}
use Rattle.std.specs.List.{count_by}
use Rattle.kfs_pieces.specs.declared.merge.ByteRange.{ByteRange}
use Rattle.kfs_pieces.specs.declared.log.FileSize.{FileSize}

-- the ranges that aren't empty
abbrev pub filled_count : List ByteRange → ℕ
filled_count ranges = count_by (λ (s : ByteRange). nat_lt s.start s.end) ranges

-- the files that grew
abbrev pub grown_count : List FileSize → ℕ
grown_count sizes = count_by (λ (s : FileSize). nat_lt s.before s.after) sizes

-- the places at which ranges in order begin or end, each counted once, and this one not at all
unfoldable pub edge_count : (number place : ℕ) → List ByteRange → ℕ
edge_count n p [] = 0
edge_count n p (s ∷ ss) = (if (s.number == n) && (s.start == p) then 1 else 2) + edge_count s.number s.end ss
