-- Who may do what: file access permissions by class, and directory protection (POSIX.1-2017, XBD 4.5 and
-- 4.3).
use Rattle.std.specs.Prelude.{ℕ, ◌*◌, ◌/◌, ◌%◌, Bool, ◌==◌, ◌&&◌, ◌||◌, nat_le, if◌then◌else◌, List, map, IsTrue}
use Rattle.std.specs.List.{list_any}
use Rattle.kfs_model.specs.Header.{Header}
use Rattle.kfs_model.specs.Limits.{greatest_number}
use Rattle.kfs_model.specs.Distinct.{are_distinct}

-- a client's row: its number, its ids and groups, and the range of numbers that it may give to new
-- nodes
pub record Client : Type 0 where
  pub number : ℕ
  pub uid : ℕ
  pub gid : ℕ
  pub groups : List ℕ
  pub privileged : Bool
  pub first : ℕ
  pub last : ℕ

-- no two rows have one number
abbrev pub ClientsAreDistinct : List Client → Type 0
ClientsAreDistinct rows = IsTrue (are_distinct (map (λ (row : Client). row.number) rows))

pub data Class : Type 0 where
  Owner Group Other : Class

pub data Want : Type 0 where
  Read Write Search : Want

-- whether the group is the client's own or a supplementary one
abbrev pub is_in_group : Client → (group : ℕ) → Bool
is_in_group client group = (client.gid == group) || list_any (λ g. g == group) client.groups

-- the class that counts for the client: owner where the uids are equal, else group where one of the
-- client's groups is the node's, else other
abbrev pub class_of : Client → (uid gid : ℕ) → Class
class_of client uid gid =
    if client.uid == uid then Owner
    else (if is_in_group client gid then Group else Other)

-- the value of the class's lowest bit in a mode: 0o100, 0o10 or 1
abbrev pub class_unit : Class → ℕ
class_unit Owner = 64
class_unit Group = 8
class_unit Other = 1

abbrev pub bit_value : Want → ℕ
bit_value Read = 4
bit_value Write = 2
bit_value Search = 1

-- whether the mode has this bit in this class
abbrev pub has_bit : (mode : ℕ) → Class → Want → Bool
has_bit mode class want = (mode / (class_unit class * bit_value want)) % 2 == 1

-- whether the client may: a privileged client always, any other where the mode has the bit in the
-- client's class
abbrev pub may : Client → (uid gid mode : ℕ) → Want → Bool
may client uid gid mode want = client.privileged || has_bit mode (class_of client uid gid) want

abbrev pub may_header : Client → Header → Want → Bool
may_header client h want = may client h.uid h.gid h.mode want

-- whether the client owns a node of this uid, or is privileged
abbrev pub owns : Client → (uid : ℕ) → Bool
owns client uid = (client.uid == uid) || client.privileged

-- whether the client may make this the group of a node that it owns (chown() with _POSIX_CHOWN_RESTRICTED)
abbrev pub may_set_group : Client → (group : ℕ) → Bool
may_set_group client group = is_in_group client group || client.privileged

-- whether the mode has the restricted deletion flag, S_ISVTX (0o1000); of a file's mode it means nothing
abbrev pub is_sticky : (mode : ℕ) → Bool
is_sticky mode = (mode / 512) % 2 == 1

-- whether a client's grant may be first to last: no number below 1, none above the greatest
abbrev pub is_grant : (first last : ℕ) → Bool
is_grant first last = nat_le 1 first && nat_le last greatest_number

-- whether the client may give the number to a new node
abbrev pub is_granted : Client → ℕ → Bool
is_granted client number = nat_le client.first number && nat_le number client.last
