-- Which entry of a log a byte of a file comes from: the last one that covers it.
-- Behind its end a file counts as zero bytes. So a gap or a growth changes no byte, and a Truncate
-- makes all bytes from its size on zero.
use Rattle.std.specs.Prelude.{◌≡◌, ℕ, ◌+◌, ◌-◌, ◌==◌, ◌&&◌, nat_le, nat_lt, List, [], ◌∷◌, length, Option, Some, None, unwrap_or, if◌then◌else◌}
use Rattle.kfs_model.specs.Table.{get, option_or}
use Rattle.kfs_model.specs.Tree.{Tree, content_of}
use Rattle.kfs_model.specs.Entry.{Entry, Create, Write, Truncate, Link, Unlink, Rename, Chmod, Regroup}
use Rattle.kfs_model.specs.Run.{Mark, Base, Zero, Payload}
use Rattle.kfs_model.specs.Plan.{mark_at}

-- the size of a file in bytes, 0 where there is no file
abbrev pub file_size : {B : Type 0} → Tree B → (number : ℕ) → ℕ
file_size t number = length (content_of (get t.nodes number))

-- the mark that this entry gives the byte, none where the entry doesn't reach it
unfoldable pub covered_by : (index : ℕ) → Entry → (number place : ℕ) → Option Mark
covered_by index (Create d m n kind mode) number place = None
covered_by index (Write n offset payload) number place =
    if (number == n) && nat_le offset place && nat_lt place (offset + length payload) then Some (Payload index (place - offset)) else None
covered_by index (Truncate n size) number place = if (number == n) && nat_le size place then Some Zero else None
covered_by index (Link n d m) number place = None
covered_by index (Unlink d m kind) number place = None
covered_by index (Rename d m e k) number place = None
covered_by index (Chmod n mode) number place = None
covered_by index (Regroup n group) number place = None

-- the mark that the last entry that reaches the byte gives it; the first entry has this index
unfoldable pub last_cover : (index : ℕ) → List Entry → (number place : ℕ) → Option Mark
last_cover index [] number place = None
last_cover index (entry ∷ entries) number place = option_or (last_cover (index + 1) entries number place) (covered_by index entry number place)

-- the mark of a byte before the log; zero behind the file's end
abbrev pub start_mark : {B : Type 0} → Tree B → (number place : ℕ) → Mark
start_mark before number place = if nat_lt place (file_size before number) then Base number place else Zero

-- each byte of a file has the mark of the last entry that covers it, or else the mark from before the
-- log
abbrev pub LastEntryDecides : {B : Type 0} → (before : Tree B) → List Entry → (after : Tree Mark) → Type 0
LastEntryDecides before entries after =
    (number place : ℕ) → mark_at after number place ≡ (if nat_lt place (file_size after number) then Some (unwrap_or (last_cover 0 entries number place) (start_mark before number place)) else None)
