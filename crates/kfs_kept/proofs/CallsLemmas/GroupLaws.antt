-- Bytes are those of one group: what is read stands there, and what stands there is read.
use Rattle.std.proofs.Common.{◌≡◌, ℕ, ◌+◌, ◌<◌, List, ◌++◌, length, Some, sym, ap, subst, ◌∙◌, append_assoc, arith}
use Rattle.std.proofs.lemmas.List.{length-append}
use Rattle.kfs_model.specs.Spelling.{IsBytes, byte, number32}
use Rattle.kfs_model.specs.Steps.{◌>>=◌}
use Rattle.kfs_model.proofs.Reading.{byte_read}
use Rattle.kfs_model.proofs.Fields.{some_from, some_is, Stands, IsField, byte_field}
use Rattle.kfs_call.specs.Call.{long_bytes}
use Rattle.kfs_call.specs.Readers.{long_read}
use Rattle.kfs_call.proofs.CallLaws.{counted_field, long_field}
use Rattle.kfs_kept.specs.Calls.Group.{CallAndAnswer, IsBrief, IsKept, brief_bytes, brief_read, kept_bytes, kept_read}

-- bytes behind a length of one byte
brief_field : IsField IsBrief brief_bytes brief_read
unfolding brief_read
brief_field = counted_field 256 byte byte_read byte_field

-- ---- a call and its answer

pub kept_takes : (bytes : List ℕ) (kept : CallAndAnswer) (rest : List ℕ) → IsBytes bytes → kept_read bytes ≡ Some (kept, rest) → Stands IsKept kept_bytes bytes kept rest
unfolding kept_read
kept_takes bytes kept rest are e =
    let a = some_from (long_read bytes) (λ call. brief_read call.1 >>= λ answer. Some (record { call = call.0; answer = answer.0 }, answer.1)) (kept, rest) e in
    let b = some_from (brief_read a.0.1) (λ answer. Some (record { call = a.0.0; answer = answer.0 }, answer.1)) (kept, rest) a.2 in
    let first = long_field.takes bytes a.0 are a.1 in
    let second = brief_field.takes a.0.1 b.0 first.rest_bytes b.1 in
    let stands : Stands IsKept kept_bytes bytes (record { call = a.0.0; answer = b.0.0 }) b.0.1 = record {
      parts = first.parts ∙ ap (λ (l : List ℕ). long_bytes a.0.0 ++ l) second.parts ∙ sym (append_assoc (long_bytes a.0.0) (brief_bytes b.0.0) b.0.1);
      fits = (first.fits, second.fits);
      rest_bytes = second.rest_bytes;
    } in
    subst (λ (y : CallAndAnswer × List ℕ). Stands IsKept kept_bytes bytes y.0 y.1) (some_is (record { call = a.0.0; answer = b.0.0 }, b.0.1) (kept, rest) b.2) stands

pub kept_again : (kept : CallAndAnswer) (rest : List ℕ) → IsKept kept → kept_read (kept_bytes kept ++ rest) ≡ Some (kept, rest)
unfolding kept_read
kept_again kept rest fits =
    ap (λ (l : List ℕ). long_read l >>= λ call. brief_read call.1 >>= λ answer. Some (record { call = call.0; answer = answer.0 }, answer.1)) (append_assoc (long_bytes kept.call) (brief_bytes kept.answer) rest)
    ∙ ap (λ o. o >>= λ call. brief_read call.1 >>= λ answer. Some (record { call = call.0; answer = answer.0 }, answer.1)) (long_field.again kept.call (brief_bytes kept.answer ++ rest) fits.0)
    ∙ ap (λ o. o >>= λ answer. Some (record { call = kept.call; answer = answer.0 }, answer.1)) (brief_field.again kept.answer rest fits.1)

kept_some : (kept : CallAndAnswer) → 0 < length (kept_bytes kept)
unfolding number32
kept_some kept = omega arith

-- what is read leaves less
pub kept_shorter : (bytes : List ℕ) (kept : CallAndAnswer) (rest : List ℕ) → IsBytes bytes → kept_read bytes ≡ Some (kept, rest) → length rest < length bytes
kept_shorter bytes kept rest are e =
    let stands = kept_takes bytes kept rest are e in
    let all : length bytes ≡ length (kept_bytes kept ++ rest) = ap length stands.parts in
    let parts : length (kept_bytes kept ++ rest) ≡ length (kept_bytes kept) + length rest = length-append (kept_bytes kept) rest in
    let some : 0 < length (kept_bytes kept) = kept_some kept in
    omega (arith, all, parts, some)
