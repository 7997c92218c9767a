-- How logs and plans are written as bytes, and what a decoder answers. Numbers are big-endian. There
-- are two versions. Each value has one encoding.
use Rattle.std.specs.Prelude.{◌≡◌, ◌≢◌, ℕ, zero, suc, ◌^◌, ◌<◌, ◌≤◌, ◌==◌, ◌&&◌, not, nat_lt, nat_le, Bool, false, List, [], ◌∷◌, ◌++◌, length, get_or, All, Option, None, Some, Result, Ok, Err, if◌then◌else◌}
use Rattle.std.specs.List.{list_all, flat_map, AllByRecursion}
use Rattle.std.specs.Int.{w16, w32, w64, to_be_bytes}
use Rattle.kfs_model.specs.Header.{Kind, File, Directory, Header}
use Rattle.kfs_model.specs.Limits.{entry_limit, greatest_mode, greatest_mode_of_version_1, latest_version, name_limit, payload_limit}
use Rattle.kfs_model.specs.Entry.{Entry, Log, Create, Write, Truncate, Link, Unlink, Rename, Chmod, Regroup}
use Rattle.kfs_model.specs.PlanRow.{NameRow, NodeRow, Source, Zero, Payload, Piece, Plan}

-- each of the numbers is below 256
abbrev pub IsBytes : List ℕ → Type 0
IsBytes numbers = (i : ℕ) → get_or numbers i 0 < 256

-- ---- fields

abbrev pub byte : ℕ → List ℕ
byte n = n ∷ []

unfoldable pub number16 : ℕ → List ℕ
number16 n = to_be_bytes w16 n

unfoldable pub number32 : ℕ → List ℕ
number32 n = to_be_bytes w32 n

unfoldable pub number64 : ℕ → List ℕ
number64 n = to_be_bytes w64 n

-- the bytes '/' and '.'
abbrev pub slash : ℕ
slash = 47

abbrev pub dot : ℕ
dot = 46

-- 1 to 255 bytes, none of them zero or '/', and neither "." nor ".."
pub record IsName (name : List ℕ) : Type 0 where
  pub some : 0 < length name
  pub short : length name ≤ name_limit
  pub plain : All (λ byte. (byte ≢ 0) × (byte ≢ slash)) name
  pub not_this : name ≢ dot ∷ []
  pub not_parent : name ≢ dot ∷ dot ∷ []

abbrev pub is_dots : List ℕ → Bool
is_dots [] = false
is_dots (a ∷ []) = a == dot
is_dots (a ∷ b ∷ []) = (a == dot) && (b == dot)
is_dots (a ∷ b ∷ c ∷ bytes) = false

-- whether these bytes are a name
unfoldable pub is_name : List ℕ → Bool
is_name bytes = nat_lt 0 (length bytes) && nat_le (length bytes) name_limit && list_all (λ byte. not (byte == 0) && not (byte == slash)) bytes && not (is_dots bytes)

-- the encoding of a name: a byte of length, then the name
abbrev pub name_bytes : List ℕ → List ℕ
name_bytes bytes = byte (length bytes) ++ bytes

-- the encoding of a payload: four bytes of length, then the payload
abbrev pub payload_bytes : List ℕ → List ℕ
payload_bytes bytes = number32 (length bytes) ++ bytes

abbrev pub IsPayload : List ℕ → Type 0
IsPayload bytes = length bytes ≤ payload_limit

abbrev pub kind_bytes : Kind → List ℕ
kind_bytes File = byte 0
kind_bytes Directory = byte 1

-- the versions are 1 and 2
abbrev pub IsVersion : ℕ → Type 0
IsVersion version = (1 ≤ version) × (version ≤ latest_version)

-- the greatest mode that an entry sets in a log of this version
abbrev pub greatest_mode_of : (version : ℕ) → ℕ
greatest_mode_of version = if version == 1 then greatest_mode_of_version_1 else greatest_mode

abbrev pub IsMode : (version mode : ℕ) → Type 0
IsMode version mode = mode ≤ greatest_mode_of version

-- a group that an entry sets; in a log of version 1 none does
abbrev pub IsGroup : (version group : ℕ) → Type 0
IsGroup version group = (2 ≤ version) × (group < 2 ^ 32)

-- ---- rows, one after another

-- the bytes begin with the encoding of such a value
abbrev pub Begins : {V : Type 0} → (V → Type 0) → (V → List ℕ) → List ℕ → Type 0
Begins {V} Fits spelling bytes = (value : V) × (rest : List ℕ) × Fits value × (bytes ≡ spelling value ++ rest)

abbrev pub BeginsWithNo : {V : Type 0} → (V → Type 0) → (V → List ℕ) → List ℕ → Type 0
BeginsWithNo Fits spelling bytes = Begins Fits spelling bytes → ⊥

-- the bytes are the encodings of these rows, followed by the rest
pub record AreRows {V : Type 0} (Fits : V → Type 0) (spelling : V → List ℕ) (rows : List V) (bytes rest : List ℕ) : Type 0 where
  pub fit : AllByRecursion Fits rows
  pub spelled : bytes ≡ flat_map spelling rows ++ rest

-- the bytes are the encodings of `count` rows, followed by the rest
pub record BeginsWithRows {V : Type 0} (Fits : V → Type 0) (spelling : V → List ℕ) (count : ℕ) (bytes rest : List ℕ) : Type 0 where
  pub rows : List V
  pub number : length rows ≡ count
  pub are : AreRows Fits spelling rows bytes rest

-- k rows stand at the front, fewer than `count`, and no row follows them
pub record LacksRowBy {V : Type 0} (Fits : V → Type 0) (spelling : V → List ℕ) (begins : List ℕ → Type 0) (count k : ℕ) (bytes : List ℕ) : Type 0 where
  pub rest : List ℕ
  pub before : BeginsWithRows Fits spelling k bytes rest
  pub fewer : k < count
  pub none : begins rest → ⊥

abbrev pub LacksRow : {V : Type 0} → (V → Type 0) → (V → List ℕ) → (count k : ℕ) → List ℕ → Type 0
LacksRow Fits spelling count k bytes = LacksRowBy Fits spelling (Begins Fits spelling) count k bytes

-- ---- logs

abbrev pub entry_bytes : Entry → List ℕ
entry_bytes (Create d m n k mode) = byte 1 ++ number32 d ++ name_bytes m ++ number32 n ++ kind_bytes k ++ number16 mode
entry_bytes (Write n offset p) = byte 2 ++ number32 n ++ number64 offset ++ payload_bytes p
entry_bytes (Truncate n size) = byte 3 ++ number32 n ++ number64 size
entry_bytes (Link n d m) = byte 4 ++ number32 n ++ number32 d ++ name_bytes m
entry_bytes (Unlink d m flag) = byte 5 ++ number32 d ++ name_bytes m ++ kind_bytes flag
entry_bytes (Rename d m e k) = byte 6 ++ number32 d ++ name_bytes m ++ number32 e ++ name_bytes k
entry_bytes (Chmod n mode) = byte 7 ++ number32 n ++ number16 mode
entry_bytes (Regroup n group) = byte 8 ++ number32 n ++ number32 group

-- the entry has an encoding in a log of this version: the version has such entries, modes, names and
-- payload are in range, and other numbers fit their widths
abbrev pub IsEntry : (version : ℕ) → Entry → Type 0
IsEntry version (Create d m n k mode) = (d < 2 ^ 32) × IsName m × (n < 2 ^ 32) × IsMode version mode
IsEntry version (Write n offset p) = (n < 2 ^ 32) × (offset < 2 ^ 64) × IsPayload p
IsEntry version (Truncate n size) = (n < 2 ^ 32) × (size < 2 ^ 64)
IsEntry version (Link n d m) = (n < 2 ^ 32) × (d < 2 ^ 32) × IsName m
IsEntry version (Unlink d m flag) = (d < 2 ^ 32) × IsName m
IsEntry version (Rename d m e k) = (d < 2 ^ 32) × IsName m × (e < 2 ^ 32) × IsName k
IsEntry version (Chmod n mode) = (n < 2 ^ 32) × IsMode version mode
IsEntry version (Regroup n group) = (n < 2 ^ 32) × IsGroup version group

-- the header of a log: the version, the client's number, and the number of entries
pub record LogHeader : Type 0 where
  pub version : ℕ
  pub client : ℕ
  pub count : ℕ

-- the encoding of a log's header: "KLOG", the version, the client, the count
abbrev pub log_header : LogHeader → List ℕ
log_header h = 75 ∷ 76 ∷ 79 ∷ 71 ∷ h.version ∷ number32 h.client ++ number16 h.count

abbrev pub IsLogHeader : LogHeader → Type 0
IsLogHeader h = IsVersion h.version × (h.client < 2 ^ 32) × (h.count ≤ entry_limit)

abbrev pub log_header_of : Log → LogHeader
log_header_of l = record { version = l.version; client = l.client; count = length l.entries }

abbrev pub log_bytes : Log → List ℕ
log_bytes l = log_header (log_header_of l) ++ flat_map entry_bytes l.entries

abbrev pub IsLog : Log → Type 0
IsLog l = IsLogHeader (log_header_of l) × AllByRecursion (IsEntry l.version) l.entries

-- ---- plans

abbrev pub name_row_bytes : NameRow → List ℕ
name_row_bytes r = number32 r.directory ++ name_bytes r.name ++ number32 r.number

abbrev pub IsNameRow : NameRow → Type 0
IsNameRow r = (r.directory < 2 ^ 32) × IsName r.name × (r.number < 2 ^ 32)

-- the byte of a node's kind: 1 for a file, 2 for a directory
abbrev pub state_bytes : Kind → List ℕ
state_bytes File = byte 1
state_bytes Directory = byte 2

-- the encoding of a header in a plan: 0 where the node is gone, else the kind and the other fields
abbrev pub header_bytes : Option Header → List ℕ
header_bytes None = byte 0
header_bytes (Some h) = state_bytes h.kind ++ number16 h.mode ++ number32 h.uid ++ number32 h.gid ++ number16 h.links ++ number64 h.size

abbrev pub IsHeader : Option Header → Type 0
IsHeader None = Unit {0}
IsHeader (Some h) = (h.mode < 2 ^ 16) × (h.uid < 2 ^ 32) × (h.gid < 2 ^ 32) × (h.links < 2 ^ 16) × (h.size < 2 ^ 64)

abbrev pub node_row_bytes : NodeRow → List ℕ
node_row_bytes r = number32 r.number ++ header_bytes r.now

abbrev pub IsNodeRow : NodeRow → Type 0
IsNodeRow r = (r.number < 2 ^ 32) × IsHeader r.now

abbrev pub source_bytes : Source → List ℕ
source_bytes Zero = byte 0
source_bytes (Payload entry place) = byte 1 ++ number16 entry ++ number32 place

abbrev pub IsSource : Source → Type 0
IsSource Zero = Unit {0}
IsSource (Payload entry place) = (entry < 2 ^ 16) × (place < 2 ^ 32)

abbrev pub piece_bytes : Piece → List ℕ
piece_bytes p = number32 p.number ++ number64 p.start ++ number64 p.length ++ source_bytes p.source

abbrev pub IsPiece : Piece → Type 0
IsPiece p = (p.number < 2 ^ 32) × (p.start < 2 ^ 64) × (p.length < 2 ^ 64) × IsSource p.source

-- the header of a plan: the version, and how many rows each part has
pub record PlanHeader : Type 0 where
  pub version : ℕ
  pub names : ℕ
  pub nodes : ℕ
  pub pieces : ℕ

-- the encoding of a plan's header: "KPLN", the version, the three counts
abbrev pub plan_header : PlanHeader → List ℕ
plan_header h = 75 ∷ 80 ∷ 76 ∷ 78 ∷ h.version ∷ number16 h.names ++ number16 h.nodes ++ number32 h.pieces

abbrev pub IsPlanHeader : PlanHeader → Type 0
IsPlanHeader h = IsVersion h.version × (h.names < 2 ^ 16) × (h.nodes < 2 ^ 16) × (h.pieces < 2 ^ 32)

abbrev pub plan_header_of : Plan → PlanHeader
plan_header_of p = record { version = p.version; names = length p.names; nodes = length p.nodes; pieces = length p.pieces }

abbrev pub plan_bytes : Plan → List ℕ
plan_bytes p = plan_header (plan_header_of p) ++ flat_map name_row_bytes p.names ++ flat_map node_row_bytes p.nodes ++ flat_map piece_bytes p.pieces

abbrev pub IsPlan : Plan → Type 0
IsPlan p = IsPlanHeader (plan_header_of p) × AllByRecursion IsNameRow p.names × AllByRecursion IsNodeRow p.nodes × AllByRecursion IsPiece p.pieces

-- ---- what a decoder answers

-- why bytes are no log or no plan
pub data SpellingFault : Type 0 where
  BadHeader Trailing : SpellingFault
  -- k entries were read, and no entry follows
  BadEntry : (k : ℕ) → SpellingFault
  -- k rows of this part were read, and no row follows; the parts are 0 names, 1 nodes, 2 pieces
  BadRow : (part k : ℕ) → SpellingFault
  deriving Discrete as SpellingFault-discrete

-- the decoder's answer to these bytes, case by case: a log; a log and more bytes; no header; a header
-- and k entries, then no entry
abbrev pub LogAnswer : List ℕ → Result Log SpellingFault → Type 0
LogAnswer bytes (Ok l) = IsLog l × (bytes ≡ log_bytes l)
LogAnswer bytes (Err Trailing) = (l : Log) × (more : List ℕ) × IsLog l × (more ≢ []) × (bytes ≡ log_bytes l ++ more)
LogAnswer bytes (Err BadHeader) = BeginsWithNo IsLogHeader log_header bytes
LogAnswer bytes (Err (BadEntry k)) = (h : LogHeader) × (rest : List ℕ) × IsLogHeader h × (bytes ≡ log_header h ++ rest) × LacksRow (IsEntry h.version) entry_bytes h.count k rest
LogAnswer bytes (Err (BadRow part k)) = ⊥

-- all rows of the parts before this one stand behind the header, then k rows of this part, and then no
-- row
abbrev pub PartLacksRow : PlanHeader → ℕ → ℕ → List ℕ → Type 0
PartLacksRow h zero k rows = LacksRow IsNameRow name_row_bytes h.names k rows
PartLacksRow h (suc zero) k rows = (nodes : List ℕ) × BeginsWithRows IsNameRow name_row_bytes h.names rows nodes × LacksRow IsNodeRow node_row_bytes h.nodes k nodes
PartLacksRow h (suc (suc zero)) k rows = (nodes pieces : List ℕ) × BeginsWithRows IsNameRow name_row_bytes h.names rows nodes × BeginsWithRows IsNodeRow node_row_bytes h.nodes nodes pieces × LacksRow IsPiece piece_bytes h.pieces k pieces
PartLacksRow h (suc (suc (suc part))) k rows = ⊥

abbrev pub PlanAnswer : List ℕ → Result Plan SpellingFault → Type 0
PlanAnswer bytes (Ok p) = IsPlan p × (bytes ≡ plan_bytes p)
PlanAnswer bytes (Err Trailing) = (p : Plan) × (more : List ℕ) × IsPlan p × (more ≢ []) × (bytes ≡ plan_bytes p ++ more)
PlanAnswer bytes (Err BadHeader) = BeginsWithNo IsPlanHeader plan_header bytes
PlanAnswer bytes (Err (BadRow part k)) = (h : PlanHeader) × (rows : List ℕ) × IsPlanHeader h × (bytes ≡ plan_header h ++ rows) × PartLacksRow h part k rows
PlanAnswer bytes (Err (BadEntry k)) = ⊥
