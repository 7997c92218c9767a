-- Calls of a desk as bytes. Numbers are big-endian. Each call has one encoding.
use Rattle.std.specs.Prelude.{ℕ, ◌^◌, ◌<◌, List, [], ◌∷◌, ◌++◌, length, map, Result}
use Rattle.std.specs.List.{AllByRecursion}
use Rattle.kfs_model.specs.Lease.{LeaseKind, ReadLease, WriteLease}
use Rattle.kfs_model.specs.Migration.{Move}
use Rattle.kfs_model.specs.Spelling.{byte, number16, number32, number64}
use Rattle.kfs_call.specs.Layout.{LayoutFault, Answer, joined}

-- a call as it is written; of a submission the bytes alone
pub data Call : Type 0 where
  Submit : (client : ℕ) (log plan : List ℕ) → Call
  Lease : (client : ℕ) (kind : LeaseKind) (end : ℕ) (path : List ℕ) → Call
  Drop : (client number : ℕ) → Call
  Tick : (moment : ℕ) → Call
  Migrate : (moves : List Move) → Call
  LeaseAt : (client : ℕ) (kind : LeaseKind) (end number : ℕ) → Call

-- ---- fields

-- a byte for the kind of a lease: 0 to read, 1 to write
abbrev pub lease_kind_bytes : LeaseKind → List ℕ
lease_kind_bytes ReadLease = byte 0
lease_kind_bytes WriteLease = byte 1

-- bytes behind four bytes with their count: a log or a plan
abbrev pub long_bytes : List ℕ → List ℕ
long_bytes bytes = number32 (length bytes) ++ bytes

abbrev pub IsLong : List ℕ → Type 0
IsLong bytes = length bytes < 2 ^ 32

-- bytes behind two bytes with their count: a path
abbrev pub short_bytes : List ℕ → List ℕ
short_bytes bytes = number16 (length bytes) ++ bytes

abbrev pub IsShort : List ℕ → Type 0
IsShort bytes = length bytes < 2 ^ 16

-- the encoding of a move: the file's number, the block, and the target's tier and place
abbrev pub move_bytes : Move → List ℕ
move_bytes m = number32 m.number ++ number32 m.block ++ byte m.target.tier ++ number32 m.target.place

-- each number fits its width
abbrev pub IsMove : Move → Type 0
IsMove m = (m.number < 2 ^ 32) × (m.block < 2 ^ 32) × (m.target.tier < 256) × (m.target.place < 2 ^ 32)

-- ---- calls

-- the fields of a call: its tag, and then its own; of moves the count, and then each
abbrev pub call_fields : Call → List (List ℕ)
call_fields (Submit client log plan) = byte 1 ∷ number32 client ∷ long_bytes log ∷ long_bytes plan ∷ []
call_fields (Lease client kind end path) = byte 2 ∷ number32 client ∷ lease_kind_bytes kind ∷ number64 end ∷ short_bytes path ∷ []
call_fields (Drop client number) = byte 3 ∷ number32 client ∷ number32 number ∷ []
call_fields (Tick moment) = byte 4 ∷ number64 moment ∷ []
call_fields (Migrate moves) = byte 5 ∷ number16 (length moves) ∷ map move_bytes moves
call_fields (LeaseAt client kind end number) = byte 6 ∷ number32 client ∷ lease_kind_bytes kind ∷ number64 end ∷ number32 number ∷ []

-- the call has an encoding: its numbers and counts fit their widths
abbrev pub IsCall : Call → Type 0
IsCall (Submit client log plan) = (client < 2 ^ 32) × IsLong log × IsLong plan
IsCall (Lease client kind end path) = (client < 2 ^ 32) × (end < 2 ^ 64) × IsShort path
IsCall (Drop client number) = (client < 2 ^ 32) × (number < 2 ^ 32)
IsCall (Tick moment) = moment < 2 ^ 64
IsCall (Migrate moves) = (length moves < 2 ^ 16) × AllByRecursion IsMove moves
IsCall (LeaseAt client kind end number) = (client < 2 ^ 32) × (end < 2 ^ 64) × (number < 2 ^ 32)

-- the encoding of a call
abbrev pub call_bytes : Call → List ℕ
call_bytes call = joined (call_fields call)

-- what a decoder of calls answers to these bytes
abbrev pub CallAnswer : List ℕ → Result Call LayoutFault → Type 0
CallAnswer bytes answer = Answer IsCall call_fields bytes answer
