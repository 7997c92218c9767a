-- The map in which the code keeps the blocks of a tier.
use Rattle.std.specs.Prelude.{◌≡◌, ℕ, List, [], ◌∷◌, Option, None, unwrap_or, if◌then◌else◌}
use Rattle.std.specs.Ordering.{nat_cmp, eq_by_cmp}
use Rattle.std.specs.BTreeMap.{BTreeMap, get}
use Rattle.kfs_model.specs.Table.{empty, insert}
use Rattle.kfs_image.specs.Tier.Blocks.{BlockTable}

-- a slot for each place that has room
abbrev pub Slots : Type 0
Slots = BTreeMap ℕ (Option (List ℕ))

-- the bytes in the place's slot, none where there is no slot or it is empty
abbrev pub held_at : Slots → (place : ℕ) → Option (List ℕ)
held_at slots place = unwrap_or (get nat_cmp slots place) None

-- the place has this slot now, or none; all other places have what they had
abbrev pub SetsSlot : (old new : Slots) (place : ℕ) → Option (Option (List ℕ)) → Type 0
SetsSlot old new place slot = (q : ℕ) → get nat_cmp new q ≡ (if eq_by_cmp nat_cmp q place then slot else get nat_cmp old q)

-- the table that the entries of the map show
unfoldable pub blocks_of : List (ℕ × Option (List ℕ)) → BlockTable
blocks_of [] = empty
blocks_of (entry ∷ entries) = insert (blocks_of entries) entry.0 entry.1
