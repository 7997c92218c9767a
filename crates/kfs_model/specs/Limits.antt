-- The limits of the file system. Each is named here once.
use Rattle.std.specs.Prelude.{ℕ}

-- the greatest number of a node; the least is 1
abbrev pub greatest_number : ℕ
greatest_number = 65536

-- the number of the root directory
abbrev pub root_number : ℕ
root_number = 1

-- the most supplementary groups of a client
abbrev pub group_limit : ℕ
group_limit = 16

-- the latest version of the formats; the first is 1
abbrev pub latest_version : ℕ
latest_version = 2

-- the greatest mode of a tree and of a log of version 2, 0o1777: the sticky bit and the nine permission
-- bits
abbrev pub greatest_mode : ℕ
greatest_mode = 1023

-- the greatest mode of a log of version 1, and the mode of a new root, 0o777: the permission bits
abbrev pub greatest_mode_of_version_1 : ℕ
greatest_mode_of_version_1 = 511

-- the most bytes of a file, 2^32
abbrev pub size_limit : ℕ
size_limit = 4294967296

-- the most names of a file
abbrev pub link_limit : ℕ
link_limit = 1024

-- the bytes of a block
abbrev pub block_size : ℕ
block_size = 4096

-- the most blocks of a tier
abbrev pub tier_limit : ℕ
tier_limit = 65536

-- the most bytes of a name
abbrev pub name_limit : ℕ
name_limit = 255

-- the most entries of a log, and the most bytes of a payload (below)
abbrev pub entry_limit : ℕ
entry_limit = 4096

abbrev pub payload_limit : ℕ
payload_limit = 65536
