-- The ten rules of an image. A rule is a list of tests, each with the number at which the rule is
-- broken if the test fails.
-- A later rule matters only where those before it hold. So from rule 5 on, rows with equal keys needn't
-- be considered.
use Rattle.std.specs.Prelude.{ℕ, ◌+◌, ◌-◌, ◌*◌, ◌==◌, ◌&&◌, ◌||◌, not, nat_lt, nat_le, Bool, true, List, [], ◌∷◌, length, map, count_by, Option, Some, None, is_some}
use Rattle.std.specs.Ordering.{is_lt}
use Rattle.kfs_model.specs.Header.{Kind, File, Directory, Header}
use Rattle.kfs_model.specs.Limits.{greatest_number, root_number, size_limit, link_limit, block_size}
use Rattle.kfs_model.specs.Table.{Order, Table, numbers, pairs, get}
use Rattle.kfs_model.specs.Tree.{NameTable, name_order, name_count}
use Rattle.kfs_model.specs.Sight.{is_directory, is_file, parent_in, climb_meets}
use Rattle.kfs_model.specs.Check.{is_some_and}
use Rattle.kfs_model.specs.PlanRow.{NameRow}
use Rattle.kfs_model.specs.Spelling.{greatest_mode_of}
use Rattle.kfs_model.specs.Placement.{TierSizes, tier_size}
use Rattle.kfs_model.specs.Device.RawImage.{RawNode, ExtentRow, RawImage, heads_of, names_of}

pub record Test : Type 0 where
  pub holds : Bool
  pub number : ℕ

abbrev pub test : Bool → (number : ℕ) → Test
test holds number = record { holds = holds; number = number }

-- ---- rows in their order

-- each row together with the row before it, if there is one
abbrev pub with_previous : {X : Type 0} → (previous : Option X) → List X → List (Option X × X)
with_previous previous [] = []
with_previous previous (row ∷ rows) = (previous, row) ∷ with_previous (Some row) rows

-- whether the row's key is above the key of the row before it
abbrev pub is_above : {X K : Type 0} → Order K → (X → K) → Option X × X → Bool
is_above R key (None, row) = true
is_above R key (Some previous, row) = is_lt (R.compare (key previous) (key row))

-- ---- nodes

abbrev pub number_test : Option RawNode × RawNode → Test
number_test e = test (is_above numbers (λ row. row.number) e && nat_le 1 e.1.number && nat_le e.1.number greatest_number) e.1.number

-- rule 1: node rows ascend, and their numbers are in range
abbrev pub rule_1 : RawImage → List Test
rule_1 raw = map number_test (with_previous None raw.nodes)

-- rule 2: number 1 is a directory
abbrev pub rule_2 : RawImage → List Test
rule_2 raw = test (is_directory (get (heads_of raw) root_number)) root_number ∷ []

-- whether links and size fit the kind: a directory has 1 link and size 0
abbrev pub kind_fits : Kind → (links size : ℕ) → Bool
kind_fits File links size = true
kind_fits Directory links size = (links == 1) && (size == 0)

abbrev pub header_test : (version : ℕ) → RawNode → Test
header_test version row = test (nat_le row.header.mode (greatest_mode_of version) && nat_le row.header.size size_limit && kind_fits row.header.kind row.header.links row.header.size) row.number

-- rule 3: modes are in the range of the image's version, sizes are in range, and a directory has 1 link
-- and size 0
abbrev pub rule_3 : RawImage → List Test
rule_3 raw = map (header_test raw.version) raw.nodes

-- ---- names

abbrev pub directory_test : Table numbers Header → Option NameRow × NameRow → Test
directory_test heads e = test (is_above name_order (λ row. (row.directory, row.name)) e && is_directory (get heads e.1.directory)) e.1.directory

-- rule 4: name rows ascend by directory and name, and each is in a directory
abbrev pub rule_4 : RawImage → List Test
rule_4 raw = map (directory_test (heads_of raw)) (with_previous None raw.names)

abbrev pub target_test : Table numbers Header → NameRow → Test
target_test heads row = test (is_some (get heads row.number) && not (row.number == root_number)) row.number

-- rule 5: each name leads to a node other than 1
abbrev pub rule_5 : RawImage → List Test
rule_5 raw = map (target_test (heads_of raw)) raw.names

-- whether a node has as many names as it should: a directory one, the root aside; a file at least one,
-- and as many as its links
abbrev pub names_fit : Kind → (number links names : ℕ) → Bool
names_fit File number links names = nat_le 1 names && nat_le names link_limit && (links == names)
names_fit Directory number links names = (number == root_number) || (names == 1)

abbrev pub names_test : NameTable → RawNode → Test
names_test names row = test (names_fit row.header.kind row.number row.header.links (name_count names row.number)) row.number

-- rule 6: each node has as many names as it should
abbrev pub rule_6 : RawImage → List Test
rule_6 raw = map (names_test (names_of raw)) raw.nodes

-- the directory in which a directory's name is
abbrev pub parent_of : RawImage → ℕ → Option ℕ
parent_of raw = parent_in (get (heads_of raw)) (names_of raw)

-- whether the parents lead from the number to the root, in at most as many steps as there are node rows
abbrev pub reaches_root : RawImage → ℕ → Bool
reaches_root raw number = climb_meets (parent_of raw) (length raw.nodes) root_number number

abbrev pub climb_test : RawImage → RawNode → Test
climb_test raw row = test (is_file (Some row.header) || reaches_root raw row.number) row.number

-- rule 7: from each directory the parents lead to number 1
abbrev pub rule_7 : RawImage → List Test
rule_7 raw = map (climb_test raw) raw.nodes

-- ---- extents

-- whether two runs of numbers, each given by its first number and its count, have a number in common
abbrev pub overlap : (first count other other_count : ℕ) → Bool
overlap first count other other_count = nat_lt first (other + other_count) && nat_lt other (first + count)

-- whether two extents have a block of a file in common
abbrev pub share_block : ExtentRow → ExtentRow → Bool
share_block row other = (row.number == other.number) && overlap row.block row.count other.block other.count

-- whether two extents have a device block in common
abbrev pub share_place : ExtentRow → ExtentRow → Bool
share_place row other = (row.tier == other.tier) && overlap row.place row.count other.place other.count

-- whether the extent's last block begins below the file's size
abbrev pub ends_in_file : Option Header → ExtentRow → Bool
ends_in_file head row = is_some_and head (λ h. is_file (Some h) && nat_lt ((row.block + row.count - 1) * block_size) h.size)

-- whether the extent has blocks and all their bytes, and shares a block with no other extent
abbrev pub is_extent : List ExtentRow → ExtentRow → Bool
is_extent rows row = nat_le 1 row.count && (length row.bytes == row.count * block_size) && nat_le (count_by (share_block row) rows) 1

abbrev pub extent_test : Table numbers Header → List ExtentRow → Option ExtentRow × ExtentRow → Test
extent_test heads rows e =
    test (is_above (pairs numbers numbers) (λ row. (row.number, row.block)) e && ends_in_file (get heads e.1.number) e.1 && is_extent rows e.1) e.1.number

-- rule 8: extent rows ascend by file number and block, and each is an extent of a file
abbrev pub rule_8 : RawImage → List Test
rule_8 raw = map (extent_test (heads_of raw) raw.extents) (with_previous None raw.extents)

abbrev pub tier_test : TierSizes → ExtentRow → Test
tier_test sizes row = test (nat_le row.tier 2 && nat_le (row.place + row.count) (tier_size sizes row.tier)) row.number

-- rule 9: each extent lies within its tier
abbrev pub rule_9 : RawImage → List Test
rule_9 raw = map (tier_test raw.sizes) raw.extents

abbrev pub place_test : List ExtentRow → ExtentRow → Test
place_test rows row = test (nat_le (count_by (share_place row) rows) 1) row.number

-- rule 10: no device block is in two extents
abbrev pub rule_10 : RawImage → List Test
rule_10 raw = map (place_test raw.extents) raw.extents

-- the ten rules, by number
abbrev pub rules : Table numbers (RawImage → List Test)
rules = record {
  entries = (1, rule_1) ∷ (2, rule_2) ∷ (3, rule_3) ∷ (4, rule_4) ∷ (5, rule_5) ∷ (6, rule_6) ∷ (7, rule_7) ∷ (8, rule_8) ∷ (9, rule_9) ∷ (10, rule_10) ∷ [];
  sorted = tt;
}
