-- The decoder as a function, for proofs: what a reader finds at the front of bytes, a value and the bytes after it, or none.
use Rattle.std.specs.Prelude.{ℕ, List, [], ◌∷◌, length, take, drop, Option, Some, None, nat_eq, nat_lt, nat_le, ◌==◌, if◌then◌else◌}
use Rattle.std.specs.List.{starts_with}
use Rattle.std.specs.Int.{Width, w16, w32, w64, byte_len, from_be_bytes}
use Rattle.kfs_model.specs.Header.{Kind, File, Directory, Header}
use Rattle.kfs_model.specs.Entry.{Entry, Create, Write, Truncate, Link, Unlink, Rename, Chmod, Regroup}
use Rattle.kfs_model.specs.Steps.{◌>>=◌}
use Rattle.kfs_model.specs.Spelling.{is_name, greatest_mode_of, LogHeader, PlanHeader}
use Rattle.kfs_model.specs.PlanRow.{NameRow, NodeRow, Source, Zero, Payload, Piece}

-- one reader after the other
infixl 12 ◌&◌
abbrev pub ◌&◌ : {V W : Type 0} → (List ℕ → Option (V × List ℕ)) → (List ℕ → Option (W × List ℕ)) → List ℕ → Option ((V × W) × List ℕ)
(r & q) bytes = r bytes >>= λ x. q x.1 >>= λ y. Some ((x.0, y.0), y.1)

-- the value made of what is read
abbrev pub made : {V W : Type 0} → (V → W) → (List ℕ → Option (V × List ℕ)) → List ℕ → Option (W × List ℕ)
made f read bytes = read bytes >>= λ x. Some (f x.0, x.1)

unfoldable pub byte_read : List ℕ → Option (ℕ × List ℕ)
byte_read [] = None
byte_read (b ∷ bytes) = Some (b, bytes)

abbrev pub number_read : Width → List ℕ → Option (ℕ × List ℕ)
number_read w bytes = if nat_lt (length bytes) (byte_len w) then None else Some (from_be_bytes w (take (byte_len w) bytes), drop (byte_len w) bytes)

unfoldable pub number16_read : List ℕ → Option (ℕ × List ℕ)
number16_read bytes = number_read w16 bytes

unfoldable pub number32_read : List ℕ → Option (ℕ × List ℕ)
number32_read bytes = number_read w32 bytes

unfoldable pub number64_read : List ℕ → Option (ℕ × List ℕ)
number64_read bytes = number_read w64 bytes

-- the next bytes, so many
abbrev pub bytes_read : ℕ → List ℕ → Option (List ℕ × List ℕ)
bytes_read count bytes = if nat_le count (length bytes) then Some (take count bytes, drop count bytes) else None

unfoldable pub name_read : List ℕ → Option (List ℕ × List ℕ)
name_read bytes = byte_read bytes >>= λ len. bytes_read len.0 len.1 >>= λ name. if is_name name.0 then Some name else None

unfoldable pub payload_read : List ℕ → Option (List ℕ × List ℕ)
payload_read bytes = number32_read bytes >>= λ len. if nat_le len.0 65536 then bytes_read len.0 len.1 else None

unfoldable pub kind_read : List ℕ → Option (Kind × List ℕ)
kind_read bytes = byte_read bytes >>= λ b. if b.0 == 0 then Some (File, b.1) else if b.0 == 1 then Some (Directory, b.1) else None

-- a mode in a log of this version
unfoldable pub mode_read : (version : ℕ) → List ℕ → Option (ℕ × List ℕ)
mode_read version bytes = number16_read bytes >>= λ n. if nat_le n.0 (greatest_mode_of version) then Some n else None

-- a group in a log of this version
unfoldable pub group_read : (version : ℕ) → List ℕ → Option (ℕ × List ℕ)
group_read version bytes = if nat_lt version 2 then None else number32_read bytes

-- ---- entries, each made of its fields

abbrev pub create_of : ((((ℕ × List ℕ) × ℕ) × Kind) × ℕ) → Entry
create_of f = Create f.0.0.0.0 f.0.0.0.1 f.0.0.1 f.0.1 f.1

abbrev pub write_of : ((ℕ × ℕ) × List ℕ) → Entry
write_of f = Write f.0.0 f.0.1 f.1

abbrev pub truncate_of : (ℕ × ℕ) → Entry
truncate_of f = Truncate f.0 f.1

abbrev pub link_of : ((ℕ × ℕ) × List ℕ) → Entry
link_of f = Link f.0.0 f.0.1 f.1

abbrev pub unlink_of : ((ℕ × List ℕ) × Kind) → Entry
unlink_of f = Unlink f.0.0 f.0.1 f.1

abbrev pub rename_of : (((ℕ × List ℕ) × ℕ) × List ℕ) → Entry
rename_of f = Rename f.0.0.0 f.0.0.1 f.0.1 f.1

abbrev pub chmod_of : (ℕ × ℕ) → Entry
chmod_of f = Chmod f.0 f.1

abbrev pub regroup_of : (ℕ × ℕ) → Entry
regroup_of f = Regroup f.0 f.1

abbrev pub create_read : (version : ℕ) → List ℕ → Option (Entry × List ℕ)
create_read version bytes = made create_of (number32_read & name_read & number32_read & kind_read & mode_read version) bytes

abbrev pub write_read : List ℕ → Option (Entry × List ℕ)
write_read bytes = made write_of (number32_read & number64_read & payload_read) bytes

abbrev pub truncate_read : List ℕ → Option (Entry × List ℕ)
truncate_read bytes = made truncate_of (number32_read & number64_read) bytes

abbrev pub link_read : List ℕ → Option (Entry × List ℕ)
link_read bytes = made link_of (number32_read & number32_read & name_read) bytes

abbrev pub unlink_read : List ℕ → Option (Entry × List ℕ)
unlink_read bytes = made unlink_of (number32_read & name_read & kind_read) bytes

abbrev pub rename_read : List ℕ → Option (Entry × List ℕ)
rename_read bytes = made rename_of (number32_read & name_read & number32_read & name_read) bytes

abbrev pub chmod_read : (version : ℕ) → List ℕ → Option (Entry × List ℕ)
chmod_read version bytes = made chmod_of (number32_read & mode_read version) bytes

abbrev pub regroup_read : (version : ℕ) → List ℕ → Option (Entry × List ℕ)
regroup_read version bytes = made regroup_of (number32_read & group_read version) bytes

-- the entry of a tag, in a log of this version
abbrev pub tagged_read : (version : ℕ) → ℕ → List ℕ → Option (Entry × List ℕ)
tagged_read version tag bytes =
    if tag == 1 then create_read version bytes
    else if tag == 2 then write_read bytes
    else if tag == 3 then truncate_read bytes
    else if tag == 4 then link_read bytes
    else if tag == 5 then unlink_read bytes
    else if tag == 6 then rename_read bytes
    else if tag == 7 then chmod_read version bytes
    else if tag == 8 then regroup_read version bytes
    else None

unfoldable pub entry_read : (version : ℕ) → List ℕ → Option (Entry × List ℕ)
entry_read version bytes = byte_read bytes >>= λ tag. tagged_read version tag.0 tag.1

-- ---- rows of a plan

unfoldable pub name_row_read : List ℕ → Option (NameRow × List ℕ)
name_row_read bytes = made (λ f. record { directory = f.0.0; name = f.0.1; number = f.1 }) (number32_read & name_read & number32_read) bytes

abbrev pub present_read : Kind → List ℕ → Option (Option Header × List ℕ)
present_read kind bytes =
    made (λ f. Some (record { kind = kind; mode = f.0.0.0.0; uid = f.0.0.0.1; gid = f.0.0.1; links = f.0.1; size = f.1 }))
    (number16_read & number32_read & number32_read & number16_read & number64_read) bytes

unfoldable pub header_read : List ℕ → Option (Option Header × List ℕ)
header_read bytes = byte_read bytes >>= λ state.
    if state.0 == 0 then Some (None, state.1)
    else if state.0 == 1 then present_read File state.1
    else if state.0 == 2 then present_read Directory state.1
    else None

unfoldable pub node_row_read : List ℕ → Option (NodeRow × List ℕ)
node_row_read bytes = made (λ f. record { number = f.0; now = f.1 }) (number32_read & header_read) bytes

unfoldable pub source_read : List ℕ → Option (Source × List ℕ)
source_read bytes = byte_read bytes >>= λ flag.
    if flag.0 == 0 then Some (Zero, flag.1)
    else if flag.0 == 1 then made (λ f. Payload f.0 f.1) (number16_read & number32_read) flag.1
    else None

unfoldable pub piece_read : List ℕ → Option (Piece × List ℕ)
piece_read bytes = made (λ f. record { number = f.0.0.0; start = f.0.0.1; length = f.0.1; source = f.1 }) (number32_read & number64_read & number64_read & source_read) bytes

-- ---- headers

-- the bytes that a format begins with
unfoldable pub mark_read : List ℕ → List ℕ → Option (Unit {0} × List ℕ)
mark_read mark bytes = if starts_with nat_eq bytes mark then Some (tt, drop (length mark) bytes) else None

unfoldable pub version_read : List ℕ → Option (ℕ × List ℕ)
version_read bytes = byte_read bytes >>= λ v. if nat_lt v.0 1 then None else if nat_le v.0 2 then Some v else None

unfoldable pub count_read : List ℕ → Option (ℕ × List ℕ)
count_read bytes = number16_read bytes >>= λ n. if nat_le n.0 4096 then Some n else None

unfoldable pub log_header_read : List ℕ → Option (LogHeader × List ℕ)
log_header_read bytes = made (λ f. record { version = f.0.0.1; client = f.0.1; count = f.1 }) (mark_read (75 ∷ 76 ∷ 79 ∷ 71 ∷ []) & version_read & number32_read & count_read) bytes

unfoldable pub plan_header_read : List ℕ → Option (PlanHeader × List ℕ)
plan_header_read bytes = made (λ f. record { version = f.0.0.0.1; names = f.0.0.1; nodes = f.0.1; pieces = f.1 }) (mark_read (75 ∷ 80 ∷ 76 ∷ 78 ∷ []) & version_read & number16_read & number16_read & number32_read) bytes
