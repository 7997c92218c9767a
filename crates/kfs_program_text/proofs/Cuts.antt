-- How bytes are cut that come in pieces.
use Rattle.std.proofs.Common.{◌≡◌, ℕ, ◌+◌, ◌-◌, ◌==◌, Bool, true, false, List, [], ◌∷◌, ◌++◌, length, take, drop, refl, sym, ap, MatchOption, Option, Some, None, arith, length-drop, position, take_all}
use Rattle.std.specs.List.{onto_first}
use Rattle.kfs_program_text.specs.Cut.{cut}
use Rattle.kfs_program_text.proofs.WordsCut.{cut_at, uncut, with_byte}

-- ---- there is a first part

onto_first-some : (byte : ℕ) (parts : List (List ℕ)) → onto_first byte parts ≡ [] → ⊥
onto_first-some byte [] none = cc
onto_first-some byte (part ∷ parts) none = cc

with_byte-some : (is_mark : Bool) (byte : ℕ) (parts : List (List ℕ)) → with_byte is_mark byte parts ≡ [] → ⊥
with_byte-some true byte parts none = cc
with_byte-some false byte parts none = onto_first-some byte parts none

pub cut-some : (mark : ℕ) (bytes : List ℕ) → cut mark bytes ≡ [] → ⊥
unfolding cut
cut-some mark [] none = cc
cut-some mark (byte ∷ bytes) none = with_byte-some (byte == mark) byte (cut mark bytes) none

-- ---- bytes without a mark before others

-- the first byte is no mark, and the others are one part
with_byte-whole : (is_mark : Bool) (byte : ℕ) (front : List ℕ) (parts : List (List ℕ)) → (parts ≡ [] → ⊥) → with_byte is_mark byte parts ≡ (byte ∷ front) ∷ []
    → (is_mark ≡ false) × (parts ≡ front ∷ [])
with_byte-whole true byte front parts some whole = cc
with_byte-whole false byte front [] some whole = absurd (some refl)
with_byte-whole false byte front (part ∷ parts) some whole = (refl, cc)

-- they stand first in the first part
pub cut-joined : (mark : ℕ) (front bytes part : List ℕ) (parts : List (List ℕ)) → cut mark front ≡ front ∷ [] → cut mark bytes ≡ part ∷ parts
    → cut mark (front ++ bytes) ≡ (front ++ part) ∷ parts
unfolding cut
cut-joined mark [] bytes part parts whole e = e
cut-joined mark (byte ∷ front) bytes part parts whole e =
    let h = with_byte-whole (byte == mark) byte front (cut mark front) (cut-some mark front) whole in
    rw h.0 (ap (onto_first byte) (cut-joined mark front bytes part parts h.1 e))

-- ---- bytes behind others

none-last : (lines : List (List ℕ)) (last : List ℕ) → [] ≡ lines ++ last ∷ [] → ⊥
none-last [] last e = cc
none-last (line ∷ lines) last e = cc

-- one more byte in front, where the lines of the bytes behind it are known
with_byte-more : (mark byte : ℕ) (bytes : List ℕ) (is_mark : Bool) (parts whole lines : List (List ℕ)) (last : List ℕ) → (byte == mark) ≡ is_mark → (parts ≡ [] → ⊥)
    → ((lines : List (List ℕ)) (last : List ℕ) → parts ≡ lines ++ last ∷ [] → whole ≡ lines ++ cut mark (last ++ bytes))
    → with_byte is_mark byte parts ≡ lines ++ last ∷ [] → with_byte is_mark byte whole ≡ lines ++ cut mark (last ++ bytes)
unfolding cut
with_byte-more mark byte bytes true parts whole [] last test some behind e = absurd (some (cc))
with_byte-more mark byte bytes true parts whole (line ∷ lines) last test some behind e =
    let same : whole ≡ lines ++ cut mark (last ++ bytes) = behind lines last (cc) in cc
with_byte-more mark byte bytes false [] whole lines last test some behind e = absurd (some refl)
with_byte-more mark byte bytes false (part ∷ parts) whole [] last test some behind e =
    let same : whole ≡ cut mark (part ++ bytes) = behind [] part (cc) in
    let held : last ≡ byte ∷ part = cc in
    rw (same, held, test) refl
with_byte-more mark byte bytes false (part ∷ parts) whole (line ∷ lines) last test some behind e =
    let same : whole ≡ (part ∷ lines) ++ cut mark (last ++ bytes) = behind (part ∷ lines) last (cc) in
    let first : line ≡ byte ∷ part = cc in
    rw (same, first) refl

-- the lines stay, and the bytes follow the last part
pub cut-more : (mark : ℕ) (front bytes : List ℕ) (lines : List (List ℕ)) (last : List ℕ) → cut mark front ≡ lines ++ last ∷ [] → cut mark (front ++ bytes) ≡ lines ++ cut mark (last ++ bytes)
unfolding cut
cut-more mark [] bytes [] last e = let none : last ≡ [] = cc in rw none refl
cut-more mark [] bytes (line ∷ lines) last e = absurd (none-last lines last (cc))
cut-more mark (byte ∷ front) bytes lines last e =
    with_byte-more mark byte bytes (byte == mark) (cut mark front) (cut mark (front ++ bytes)) lines last refl (cut-some mark front) (cut-more mark front bytes) e

-- ---- the first mark

-- the cut at the place that was found
pub cut-found : (mark : ℕ) (bytes : List ℕ) (found : Option ℕ) → found ≡ position (λ byte. byte == mark) bytes
    → MatchOption found (cut mark bytes ≡ bytes ∷ []) (λ place. cut mark bytes ≡ take place bytes ∷ cut mark (drop (place + 1) bytes))
cut-found mark bytes None is = uncut mark bytes (sym is)
cut-found mark bytes (Some place) is = cut_at mark bytes place (sym is)

-- ---- slices

-- what stands behind a place
pub slice-back : (place : ℕ) (bytes : List ℕ) → take (length bytes - place) (drop place bytes) ≡ drop place bytes
slice-back place bytes = take_all _ _ (omega (arith, length-drop place bytes))
