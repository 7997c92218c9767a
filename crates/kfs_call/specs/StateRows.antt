-- States of a desk as bytes. Numbers are big-endian. The rows of a state have one encoding.
use Rattle.std.specs.Prelude.{◌≡◌, ℕ, zero, suc, ◌^◌, ◌<◌, ◌≤◌, List, ◌∷◌, ◌++◌, length, Result, Ok, Err}
use Rattle.std.specs.List.{flat_map, AllByRecursion}
use Rattle.kfs_model.specs.Access.{Client}
use Rattle.kfs_model.specs.Lease.{LeaseKind}
use Rattle.kfs_model.specs.Spelling.{byte, number32, number64, BeginsWithNo, BeginsWithRows, LacksRow}
use Rattle.kfs_call.specs.Call.{lease_kind_bytes}
use Rattle.kfs_call.specs.AnswerRow.{flag_bytes}

-- ---- rows

-- a lease of a client on a node
pub record LeaseRow : Type 0 where
  pub node : ℕ
  pub client : ℕ
  pub kind : LeaseKind
  pub end : ℕ

-- supplementary groups: their count, and then each
abbrev pub groups_bytes : List ℕ → List ℕ
groups_bytes groups = byte (length groups) ++ flat_map number32 groups

abbrev pub AreGroups : List ℕ → Type 0
AreGroups groups = (length groups ≤ 16) × AllByRecursion (λ g. g < 2 ^ 32) groups

-- the encoding of a client: its number, uid and gid, whether it is privileged, its grant, its groups
abbrev pub client_bytes : Client → List ℕ
client_bytes c = number32 c.number ++ number32 c.uid ++ number32 c.gid ++ flag_bytes c.privileged ++ number32 c.first ++ number32 c.last ++ groups_bytes c.groups

-- the numbers fit their widths
abbrev pub IsClientRow : Client → Type 0
IsClientRow c = (c.number < 2 ^ 32) × (c.uid < 2 ^ 32) × (c.gid < 2 ^ 32) × (c.first < 2 ^ 32) × (c.last < 2 ^ 32) × AreGroups c.groups

-- the encoding of a lease: its node, its client, its kind and its end
abbrev pub lease_bytes : LeaseRow → List ℕ
lease_bytes l = number32 l.node ++ number32 l.client ++ lease_kind_bytes l.kind ++ number64 l.end

abbrev pub IsLeaseRow : LeaseRow → Type 0
IsLeaseRow l = (l.node < 2 ^ 32) × (l.client < 2 ^ 32) × (l.end < 2 ^ 64)

-- ---- states

-- the moment, the rows, and the bytes of an image
pub record StateRows : Type 0 where
  pub moment : ℕ
  pub clients : List Client
  pub leases : List LeaseRow
  pub image : List ℕ

-- the header of a state: the moment, and how many rows each part has
pub record StateHeader : Type 0 where
  pub moment : ℕ
  pub clients : ℕ
  pub leases : ℕ

-- the encoding of a state's header: "KDSK", the version, the moment, the two counts
abbrev pub state_header : StateHeader → List ℕ
state_header h = 75 ∷ 68 ∷ 83 ∷ 75 ∷ 1 ∷ number64 h.moment ++ number32 h.clients ++ number32 h.leases

abbrev pub IsStateHeader : StateHeader → Type 0
IsStateHeader h = (h.moment < 2 ^ 64) × (h.clients < 2 ^ 32) × (h.leases < 2 ^ 32)

abbrev pub state_header_of : StateRows → StateHeader
state_header_of s = record { moment = s.moment; clients = length s.clients; leases = length s.leases }

-- the encoding of a state: its header, clients, leases, and the image
abbrev pub state_bytes : StateRows → List ℕ
state_bytes s = state_header (state_header_of s) ++ flat_map client_bytes s.clients ++ flat_map lease_bytes s.leases ++ s.image

abbrev pub IsStateRows : StateRows → Type 0
IsStateRows s = IsStateHeader (state_header_of s) × AllByRecursion IsClientRow s.clients × AllByRecursion IsLeaseRow s.leases

-- ---- what a decoder answers

pub data StateFault : Type 0 where
  BadHeader : StateFault
  -- k rows of this part were read, and no row follows; the parts are 0 clients, 1 leases
  BadRow : (part k : ℕ) → StateFault

-- all rows of the parts before this one stand behind the header, then k rows of this part, and then no row
abbrev pub PartLacksRow : StateHeader → (part k : ℕ) → List ℕ → Type 0
PartLacksRow h zero k rows = LacksRow IsClientRow client_bytes h.clients k rows
PartLacksRow h (suc zero) k rows = (leases : List ℕ) × BeginsWithRows IsClientRow client_bytes h.clients rows leases × LacksRow IsLeaseRow lease_bytes h.leases k leases
PartLacksRow h (suc (suc part)) k rows = ⊥

-- the decoder's answer to these bytes, case by case: a state; no header; a header, and rows until one is missing
abbrev pub StateAnswer : List ℕ → Result StateRows StateFault → Type 0
StateAnswer bytes (Ok s) = IsStateRows s × (bytes ≡ state_bytes s)
StateAnswer bytes (Err BadHeader) = BeginsWithNo IsStateHeader state_header bytes
StateAnswer bytes (Err (BadRow part k)) = (h : StateHeader) × (rows : List ℕ) × IsStateHeader h × (bytes ≡ state_header h ++ rows) × PartLacksRow h part k rows
