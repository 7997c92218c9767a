-- Calls with their answers as the bytes of a group. Each group has one encoding, and bytes are those of one group.
use Rattle.std.specs.Prelude.{ℕ, List, ◌++◌, ◌<◌, Option, Some, length}
use Rattle.std.specs.List.{flat_map, AllByRecursion}
use Rattle.kfs_call.specs.Call.{long_bytes, IsLong}
use Rattle.kfs_call.specs.Readers.{long_read}
use Rattle.kfs_model.specs.Spelling.{byte}
use Rattle.kfs_model.specs.Steps.{◌>>=◌}
use Rattle.kfs_model.proofs.Reading.{byte_read, bytes_read}
use Rattle.kfs_kept.specs.declared.calls.group.KeptCall.{KeptCall}

-- the bytes of a call, and those of its answer without the position
pub record CallAndAnswer : Type 0 where
  pub call : List ℕ
  pub answer : List ℕ

abbrev pub kept_shown : KeptCall → CallAndAnswer
kept_shown kept = record { call = kept.call.now; answer = kept.answer.now }

-- bytes behind a length of one byte
abbrev pub brief_bytes : List ℕ → List ℕ
brief_bytes bytes = byte (length bytes) ++ bytes

abbrev pub IsBrief : List ℕ → Type 0
IsBrief bytes = length bytes < 256

-- each behind its length
abbrev pub kept_bytes : CallAndAnswer → List ℕ
kept_bytes kept = long_bytes kept.call ++ brief_bytes kept.answer

-- the lengths fit their width
abbrev pub IsKept : CallAndAnswer → Type 0
IsKept kept = IsLong kept.call × IsBrief kept.answer

-- the encoding of a group
abbrev pub group_bytes : List CallAndAnswer → List ℕ
group_bytes calls = flat_map kept_bytes calls

abbrev pub IsGroup : List CallAndAnswer → Type 0
IsGroup calls = AllByRecursion IsKept calls

unfoldable pub brief_read : List ℕ → Option (List ℕ × List ℕ)
brief_read bytes = byte_read bytes >>= λ len. bytes_read len.0 len.1

-- the first call of a group and what stands behind it, as they are read
unfoldable pub kept_read : List ℕ → Option (CallAndAnswer × List ℕ)
kept_read bytes = long_read bytes >>= λ call. brief_read call.1 >>= λ answer. Some (record { call = call.0; answer = answer.0 }, answer.1)
