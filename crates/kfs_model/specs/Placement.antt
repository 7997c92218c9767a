-- Where the blocks of files lie, which of them a log writes and clears, and how much room it needs.
use Rattle.std.specs.Prelude.{◌≡◌, ℕ, zero, suc, ◌+◌, ◌-◌, ◌*◌, ◌/◌, ◌<◌, ◌≤◌, ◌&&◌, ◌||◌, ◌==◌, not, Bool, true, false, List, [], ◌∷◌, length, take, drop, filter, map, flat_map, Option, Some, IsTrue, if◌then◌else◌}
use Rattle.std.specs.List.{list_any, list_all}
use Rattle.kfs_model.specs.Header.{Header}
use Rattle.kfs_model.specs.Limits.{block_size, tier_limit}
use Rattle.kfs_model.specs.Table.{Table, numbers, pairs, get}
use Rattle.kfs_model.specs.Tree.{Tree, Node, content_of}
use Rattle.kfs_model.specs.Sight.{is_file}
use Rattle.kfs_model.specs.Run.{Mark}
use Rattle.kfs_model.specs.Plan.{is_base}

-- the number of blocks of each tier
pub record TierSizes : Type 0 where
  pub first : ℕ
  pub second : ℕ
  pub third : ℕ

-- no tier has more blocks than a tier may have
abbrev pub AreTierSizes : TierSizes → Type 0
AreTierSizes sizes = (sizes.first ≤ tier_limit) × (sizes.second ≤ tier_limit) × (sizes.third ≤ tier_limit)

-- the number of blocks of this tier, 0 for a tier over 2
abbrev pub tier_size : TierSizes → (tier : ℕ) → ℕ
tier_size sizes tier = if tier == 0 then sizes.first else if tier == 1 then sizes.second else if tier == 2 then sizes.third else 0

-- a tier, 0 to 2, and a block on its device, counted from 0
pub record Place : Type 0 where
  pub tier : ℕ
  pub place : ℕ

-- the place with this number on tier 0
abbrev pub in_first_tier : ℕ → Place
in_first_tier place = record { tier = 0; place = place }

-- where the blocks of files lie, by file number and block; a block that isn't mapped has no place
abbrev pub Placement : Type 0
Placement = Table (pairs numbers numbers) Place

-- the file with this number has this block: the block begins below the file's size
pub record IsBlock (head : ℕ → Option Header) (number block : ℕ) : Type 0 where
  pub header : Header
  pub shown : head number ≡ Some header
  pub file : IsTrue (is_file (Some header))
  pub begins : block * block_size < header.size

-- each place is within its tier, and no place holds two blocks
pub record IsLaid (sizes : TierSizes) (placement : Placement) : Type 0 where
  pub apart : (block other : ℕ × ℕ) (place : Place) → get placement block ≡ Some place → get placement other ≡ Some place → block ≡ other
  pub in_tier : (block : ℕ × ℕ) (place : Place) → get placement block ≡ Some place → place.place < tier_size sizes place.tier

-- the blocks have places of their own, and each is a block of a file
pub record IsPlacement (sizes : TierSizes) (head : ℕ → Option Header) (placement : Placement) : Type 0 where
  pub laid : IsLaid sizes placement
  pub of_files : (number block : ℕ) (place : Place) → get placement (number, block) ≡ Some place → IsBlock head number block

-- whether no block lies at the place
abbrev pub is_free : Placement → Place → Bool
is_free placement place = not (list_any (λ e. (e.1.tier == place.tier) && (e.1.place == place.place)) placement.entries)

-- `count` numbers in a row, from the first on
abbrev pub numbers_from : (first count : ℕ) → List ℕ
numbers_from first zero = []
numbers_from first (suc count) = first ∷ numbers_from (first + 1) count

-- the numbers below `count`, ascending
abbrev pub below : (count : ℕ) → List ℕ
below count = numbers_from 0 count

abbrev pub is_payload : Mark → Bool
is_payload (Mark.Base number place) = false
is_payload Mark.Zero = false
is_payload (Mark.Payload entry place) = true

abbrev pub is_zero : Mark → Bool
is_zero (Mark.Base number place) = false
is_zero Mark.Zero = true
is_zero (Mark.Payload entry place) = false

-- whether a block with these marks is written: it has a byte from the log, or both zero bytes and old
-- bytes
abbrev pub is_written : List Mark → Bool
is_written block = list_any is_payload block || (list_any is_zero block && list_any is_base block)

-- whether a block with these marks is cleared: the log made all its bytes zero
abbrev pub is_cleared : List Mark → Bool
is_cleared block = list_all is_zero block

abbrev pub block_count : ℕ → ℕ
block_count size = (size + (block_size - 1)) / block_size

-- the marks cut into blocks, each with its block number
abbrev pub blocks_from : (count block : ℕ) → List Mark → List (ℕ × List Mark)
blocks_from zero block marks = []
blocks_from (suc count) block marks = (block, take block_size marks) ∷ blocks_from count (block + 1) (drop block_size marks)

abbrev pub blocks_of : List Mark → List (ℕ × List Mark)
blocks_of marks = blocks_from (block_count (length marks)) 0 marks

abbrev pub blocks_that : (List Mark → Bool) → ℕ × Node Mark → List (ℕ × ℕ)
blocks_that test entry = map (λ block. (entry.0, block.0)) (filter (λ block. test block.1) (blocks_of (content_of (Some entry.1))))

-- the blocks of files that the log writes, ascending
unfoldable pub written_blocks : Tree Mark → List (ℕ × ℕ)
written_blocks t = flat_map (blocks_that is_written) t.nodes.entries

-- the blocks that the log makes all zero, ascending
unfoldable pub cleared_blocks : Tree Mark → List (ℕ × ℕ)
cleared_blocks t = flat_map (blocks_that is_cleared) t.nodes.entries

-- how many free places of tier 0 a landing takes
abbrev pub need : Tree Mark → ℕ
need t = length (written_blocks t)
