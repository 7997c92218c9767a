-- The images of the worked examples. Each has three tiers of eight blocks. The root has uid and gid 0,
-- all other nodes have 1000.
use Rattle.std.specs.Prelude.{◌≡◌, ℕ, zero, suc, List, [], ◌∷◌, ◌++◌, take, drop, replicate, Some, option_map, filter_map}
use Rattle.kfs_model.specs.Header.{Kind, File, Directory}
use Rattle.kfs_model.specs.Limits.{block_size}
use Rattle.kfs_model.specs.Table.{get, insert, mapped}
use Rattle.kfs_model.specs.Tree.{Tree}
use Rattle.kfs_model.specs.Sight.{climb_meets}
use Rattle.kfs_model.specs.PlanRow.{NameRow}
use Rattle.kfs_model.specs.Placement.{TierSizes, Place, Placement}
use Rattle.kfs_model.specs.Spelling.{number16, number32, number64}
use Rattle.kfs_model.specs.Examples.Example as known
use Rattle.kfs_model.specs.Examples.Example.{name_row, name_a, name_b, name_x}
use Rattle.kfs_model.specs.Device.RawImage.{RawNode, ExtentRow, RawImage, table_of}
use Rattle.kfs_model.specs.Device.FreeRuns.{Run, runs_of}
use Rattle.kfs_model.specs.Device.Rules.{rules}
use Rattle.kfs_model.specs.Device.Finding.{Finding, least_failed, finding_of}
use Rattle.kfs_model.specs.Device.Canonical.{joined_extents}

-- what the proof of an example unfolds in order to compute
unfoldable pub computing : Unit {0}
unfolding get insert mapped climb_meets runs_of finding_of joined_extents number16 number32 number64
computing = tt

-- ---- rows

abbrev pub sizes : TierSizes
sizes = record { first = 8; second = 8; third = 8 }

abbrev pub node : (number : ℕ) → Kind → (mode id links size : ℕ) → RawNode
node number kind mode id links size = record { number = number; header = record { kind = kind; mode = mode; uid = id; gid = id; links = links; size = size } }

-- the root's row, with this mode
abbrev pub root_with : (mode : ℕ) → RawNode
root_with mode = node 1 Directory mode 0 1 0

abbrev pub root : RawNode
root = root_with 511

abbrev pub directory : (number : ℕ) → RawNode
directory number = node number Directory 511 1000 1 0

-- the row of a file with one name
abbrev pub file : (number size : ℕ) → RawNode
file number size = node number File 420 1000 1 size

abbrev pub extent : (number block tier place count : ℕ) → List ℕ → ExtentRow
extent number block tier place count bytes = record { number = number; block = block; tier = tier; place = place; count = count; bytes = bytes }

-- the bytes of so many blocks, each byte 120
abbrev pub letters : (count : ℕ) → List ℕ
letters zero = []
letters (suc count) = replicate block_size 120 ++ letters count

-- an extent of one such block, at a place of tier 0
abbrev pub block_at : (number block place : ℕ) → ExtentRow
block_at number block place = extent number block 0 place 1 (letters 1)

-- rows of version 2
abbrev pub raw : List RawNode → List NameRow → List ExtentRow → RawImage
raw nodes names extents = record { version = 2; sizes = sizes; nodes = nodes; names = names; extents = extents }

-- the same rows in version 1
abbrev pub in_version_1 : RawImage → RawImage
in_version_1 image = record image { version = 1 }

-- the root, and file 5 of this size at "/a" with these extents
abbrev pub one_file : (size : ℕ) → List ExtentRow → RawImage
one_file size extents = raw (root ∷ file 5 size ∷ []) (name_row 1 name_a 5 ∷ []) extents

-- the root, and files 5 and 7 of these sizes at "/a" and "/b" with these extents
abbrev pub two_files : (size_of_5 size_of_7 : ℕ) → List ExtentRow → RawImage
two_files size_of_5 size_of_7 extents = raw (root ∷ file 5 size_of_5 ∷ file 7 size_of_7 ∷ []) (name_row 1 name_a 5 ∷ name_row 1 name_b 7 ∷ []) extents

-- ---- what is found

abbrev pub at : (rule number : ℕ) → Finding
at rule number = record { rule = rule; number = number }

-- each rule that is broken, with the least number at which it is
abbrev pub findings : RawImage → List Finding
findings image = filter_map (λ rule. option_map (at rule.0) (least_failed (rule.1 image))) rules.entries

-- the image's finding is this, and these later rules are broken too
abbrev pub Breaks : RawImage → Finding → (later : List Finding) → Type 0
Breaks image finding later = (finding_of image ≡ Some finding) × (findings image ≡ finding ∷ later)

-- ---- two files with one device block, directories in a ring, a root alone

-- files 5 and 7 of four bytes, each with a block at place 0
abbrev pub shared_block : (mode_of_7 : ℕ) → RawImage
shared_block mode_of_7 =
    raw (root ∷ file 5 4 ∷ node 7 File mode_of_7 1000 1 4 ∷ []) (name_row 1 name_a 5 ∷ name_row 1 name_b 7 ∷ []) (block_at 5 0 0 ∷ block_at 7 0 0 ∷ [])

-- directories 3 and 4, each named in the other
abbrev pub ring : RawImage
ring = raw (root ∷ directory 3 ∷ directory 4 ∷ []) (name_row 3 name_x 4 ∷ name_row 4 name_x 3 ∷ []) []

abbrev pub root_alone : (mode : ℕ) → RawImage
root_alone mode = raw (root_with mode ∷ []) [] []

-- ---- a file with a hole

-- file 5 of 4,098 bytes; its first block isn't mapped, and its second one lies at place 2
abbrev pub with_hole : RawImage
with_hole = one_file 4098 (block_at 5 1 2 ∷ [])

-- file 5 has one byte more than a block, in two blocks at the end of tier 2; the second block begins
-- with 121
abbrev pub two_blocks : RawImage
two_blocks = one_file 4097 (extent 5 0 2 6 2 (letters 1 ++ 121 ∷ replicate 4095 120) ∷ [])

-- file 5 at "/a", of uid 1000, with mode 0o644 and this content
abbrev pub shown_file : List ℕ → Tree ℕ
shown_file content = known.with_file content

abbrev pub run : (first count : ℕ) → Run
run first count = record { first = first; count = count }

-- block 0 of file 5 lies at place 2 of tier 1, and no other block lies anywhere
abbrev pub one_place : Placement
one_place = table_of _ (((5, 0), record { tier = 1; place = 2 }) ∷ [])

-- ---- bytes of images

-- so many rows of each part, over three tiers of eight blocks; the counts are below 256
abbrev pub header_bytes : (version nodes names extents : ℕ) → List ℕ
header_bytes version nodes names extents =
    75 ∷ 73 ∷ 77 ∷ 71 ∷ version ∷ 0 ∷ 0 ∷ 0 ∷ 8 ∷ 0 ∷ 0 ∷ 0 ∷ 8 ∷ 0 ∷ 0 ∷ 0 ∷ 8 ∷ 0 ∷ 0 ∷ 0 ∷ nodes ∷ 0 ∷ 0 ∷ 0 ∷ names ∷ 0 ∷ 0 ∷ 0 ∷ extents ∷ []

-- the root's row, with the two bytes of the mode
abbrev pub root_row_bytes : (high low : ℕ) → List ℕ
root_row_bytes high low = 0 ∷ 0 ∷ 0 ∷ 1 ∷ 1 ∷ high ∷ low ∷ 0 ∷ 0 ∷ 0 ∷ 0 ∷ 0 ∷ 0 ∷ 0 ∷ 0 ∷ 0 ∷ 1 ∷ 0 ∷ 0 ∷ 0 ∷ 0 ∷ 0 ∷ 0 ∷ 0 ∷ 0 ∷ []

-- the root alone: 54 bytes
abbrev pub root_bytes : (version high low : ℕ) → List ℕ
root_bytes version high low = header_bytes version 1 0 0 ++ root_row_bytes high low

-- the row of file 5, of 4 bytes
abbrev pub file_row_bytes : List ℕ
file_row_bytes = 0 ∷ 0 ∷ 0 ∷ 5 ∷ 0 ∷ 1 ∷ 164 ∷ 0 ∷ 0 ∷ 3 ∷ 232 ∷ 0 ∷ 0 ∷ 3 ∷ 232 ∷ 0 ∷ 1 ∷ 0 ∷ 0 ∷ 0 ∷ 0 ∷ 0 ∷ 0 ∷ 0 ∷ 4 ∷ []

-- the name "a" in the root leads to 5
abbrev pub name_a_bytes : List ℕ
name_a_bytes = 0 ∷ 0 ∷ 0 ∷ 1 ∷ 1 ∷ 97 ∷ 0 ∷ 0 ∷ 0 ∷ 5 ∷ []

-- an extent of so many blocks of file 5, from block 0 on, at place 2 of this tier; the count is below 256
abbrev pub extent_5_bytes : (tier count : ℕ) → List ℕ → List ℕ
extent_5_bytes tier count bytes = 0 ∷ 0 ∷ 0 ∷ 5 ∷ 0 ∷ 0 ∷ 0 ∷ 0 ∷ tier ∷ 0 ∷ 0 ∷ 0 ∷ 2 ∷ 0 ∷ 0 ∷ 0 ∷ count ∷ bytes

-- the root, file 5 at "/a", and this extent
abbrev pub file_bytes_with : List ℕ → List ℕ
file_bytes_with extent_row = header_bytes 2 2 1 1 ++ root_row_bytes 1 255 ++ file_row_bytes ++ name_a_bytes ++ extent_row

-- each count is 2^32 - 1, and no row follows
abbrev pub boastful_bytes : List ℕ
boastful_bytes =
    75 ∷ 73 ∷ 77 ∷ 71 ∷ 1 ∷ 0 ∷ 0 ∷ 0 ∷ 8 ∷ 0 ∷ 0 ∷ 0 ∷ 8 ∷ 0 ∷ 0 ∷ 0 ∷ 8 ∷ 255 ∷ 255 ∷ 255 ∷ 255 ∷ 255 ∷ 255 ∷ 255 ∷ 255 ∷ 255 ∷ 255 ∷ 255 ∷ 255 ∷ []

-- the root alone, with 65,537 blocks in the first tier
abbrev pub large_tier_bytes : List ℕ
large_tier_bytes = take 5 (root_bytes 1 1 255) ++ (0 ∷ 1 ∷ 0 ∷ 1 ∷ drop 9 (root_bytes 1 1 255))

-- ---- states and their extents

-- a block of a file, and its place
abbrev pub lies : (number block tier place : ℕ) → (ℕ × ℕ) × Place
lies number block tier place = ((number, block), record { tier = tier; place = place })

-- an extent of one block of which one byte is said
abbrev pub short : (number block tier place byte : ℕ) → ExtentRow
short number block tier place byte = extent number block tier place 1 (byte ∷ [])

-- file 5 of two bytes more than a block, of version 1, in two extents that go on; bytes past its size
-- aren't zero
abbrev pub in_two_extents : RawImage
in_two_extents = in_version_1 (one_file 4098 (block_at 5 0 2 ∷ block_at 5 1 3 ∷ []))

-- a tree with such a file
abbrev pub in_two_blocks : Tree ℕ
in_two_blocks = shown_file (letters 1 ++ 120 ∷ 120 ∷ [])

-- the same in one extent of version 2
abbrev pub in_one_extent : RawImage
in_one_extent = one_file 4098 (extent 5 0 0 2 2 (letters 1 ++ 120 ∷ 120 ∷ replicate 4094 0) ∷ [])

-- "/a" leads to 7 and "/b" to 5
abbrev pub names_across : RawImage
names_across = raw (root ∷ file 5 0 ∷ file 7 0 ∷ []) (name_row 1 name_a 7 ∷ name_row 1 name_b 5 ∷ []) []
