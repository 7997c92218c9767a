-- The words of bits in which the code keeps a tier's places.
use Rattle.std.specs.Prelude.{◌≡◌, ℕ, ◌+◌, ◌/◌, ◌%◌, ◌*◌, ◌<◌, ◌≤◌, ◌==◌, not, Bool, true, false, List, map, length, slice_index}
use Rattle.std.specs.Int.{bit_at}
use Rattle.std.specs.List.{range_with_len}
use Rattle.kfs_image.specs.Tier.Places.{free_count}

-- whether the place's bit is set; a word has the bits of 64 places, the least place in its lowest bit
abbrev pub is_marked : List ℕ → (place : ℕ) → Bool
is_marked words place = bit_at (slice_index words (place / 64)) (place % 64) == 1

-- the places whose bits are clear are free
unfoldable pub places_of : List ℕ → (size : ℕ) → List Bool
places_of words size = map (λ place. not (is_marked words place)) (range_with_len 0 size)

-- the words have a bit for each place, no more words than needed, and `free` bits are clear
pub record AreCounted (words : List ℕ) (size free : ℕ) : Type 0 where
  pub cover : size ≤ 64 * length words
  pub close : 64 * length words < size + 64
  pub counted : free ≡ free_count (places_of words size)

-- the place is the least one from `from` on whose bit is clear
pub record IsNextClear (words : List ℕ) (from place : ℕ) : Type 0 where
  pub reached : from ≤ place
  pub within : place < 64 * length words
  pub clear : is_marked words place ≡ false
  pub least : (other : ℕ) → from ≤ other → other < place → is_marked words other ≡ true
