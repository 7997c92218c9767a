-- The laws of a field: what is read stands there, and what is encoded is read.
use Rattle.std.proofs.Common.{◌≡◌, ◌⊎◌, ℕ, suc, ◌+◌, ◌^◌, ◌<◌, ◌≤◌, Bool, true, false, cond, eqb, ltb, leb, List, [], ◌∷◌, ◌++◌, length, take, drop, Option, Some, None, refl, sym, ap, subst, ◌∙◌, append_assoc, arith, inl, inr}
use Rattle.std.specs.Int.{Width, w16, w32, w64, byte_len, from_be_bytes, to_be_bytes}
use Rattle.std.proofs.lemmas.Bool.{cases_lt, ltb-false, leb-true, le-leb, le-ltb, eqb-true}
use Rattle.std.proofs.lemmas.List.{take_at, drop_at, take-append-drop, length-append, length-take, get_or-drop, get_or-take, get_or_past}
use Rattle.std.proofs.lemmas.Nat.{be_bytes_2, be_bytes_4, be_bytes_8, from_be_bytes-to_be_bytes_2, from_be_bytes-to_be_bytes_4, from_be_bytes-to_be_bytes_8}
use Rattle.kfs_model.specs.Header.{Kind, File, Directory}
use Rattle.kfs_model.specs.Steps.{◌>>=◌}
use Rattle.kfs_model.specs.Spelling.{IsBytes, is_name, byte, number16, number32, number64, IsName, name_bytes, IsPayload, payload_bytes, kind_bytes, IsVersion, greatest_mode_of, IsMode, IsGroup}
use Rattle.kfs_model.proofs.Reading.{◌&◌, made, byte_read, number_read, number16_read, number32_read, number64_read, bytes_read, name_read, payload_read, kind_read, mode_read, group_read, version_read}
use Rattle.kfs_model.proofs.NameTest.{is_name_true, is_name_sound}

pub IsBytes-drop : (n : ℕ) (bytes : List ℕ) → IsBytes bytes → IsBytes (drop n bytes)
IsBytes-drop n bytes h i = rw get_or-drop (h (n + i))

IsBytes-take : (n : ℕ) (bytes : List ℕ) → IsBytes bytes → IsBytes (take n bytes)
IsBytes-take n bytes h i =
    elim (cases_lt i n) [
      | inl lt ↦ rw (get_or-take n bytes i 0 lt) (h i)
      | inr le ↦ rw (get_or_past (take n bytes) i 0 (omega (arith, length-take n bytes))) (omega arith)
    ]

IsBytes-rest : (b : ℕ) (bytes : List ℕ) → IsBytes (b ∷ bytes) → IsBytes bytes
IsBytes-rest b bytes h i = h (suc i)

-- ---- steps that did not fail

pub some_from : {V W : Type 0} (o : Option V) (f : V → Option W) (y : W) → (o >>= f) ≡ Some y → (x : V) × (o ≡ Some x) × (f x ≡ Some y)
some_from (Some x) f y e = (x, refl, e)
some_from None f y e = absurd cc

-- a test, and a value where it holds
pub some_if : {V : Type 0} (b : Bool) (o : Option V) (y : V) → cond b o None ≡ Some y → (b ≡ true) × (o ≡ Some y)
some_if true o y e = (refl, e)
some_if false o y e = absurd cc

some_if_not : {V : Type 0} (b : Bool) (o : Option V) (y : V) → cond b None o ≡ Some y → (b ≡ false) × (o ≡ Some y)
some_if_not true o y e = absurd cc
some_if_not false o y e = (refl, e)

abbrev done : {V : Type 0} → V → Option V
done x = Some x

pub some_is : {V : Type 0} (x y : V) → done x ≡ done y → x ≡ y
some_is x y e = cc

-- ---- what a reader does, against an encoding and a range

-- the value stands at the front of the bytes, and the rest behind it
pub record Stands {V : Type 0} (Fits : V → Type 0) (spelling : V → List ℕ) (bytes : List ℕ) (value : V) (rest : List ℕ) : Type 0 where
  pub parts : bytes ≡ spelling value ++ rest
  pub fits : Fits value
  pub rest_bytes : IsBytes rest

pub record IsField {V : Type 0} (Fits : V → Type 0) (spelling : V → List ℕ) (read : List ℕ → Option (V × List ℕ)) : Type 0 where
  -- what is read stands there
  pub takes : (bytes : List ℕ) (x : V × List ℕ) → IsBytes bytes → read bytes ≡ Some x → Stands Fits spelling bytes x.0 x.1
  -- what is encoded is read, whatever follows
  pub again : (value : V) (rest : List ℕ) → Fits value → read (spelling value ++ rest) ≡ Some (value, rest)

-- one field after the other
pub both : {V W : Type 0} {F : V → Type 0} {G : W → Type 0} {s : V → List ℕ} {t : W → List ℕ} {r : List ℕ → Option (V × List ℕ)} {q : List ℕ → Option (W × List ℕ)}
    → IsField F s r → IsField G t q → IsField (λ (p : V × W). F p.0 × G p.1) (λ p. s p.0 ++ t p.1) (r & q)
both {V} {W} {F} {G} {s} {t} {r} {q} first second = record {
  takes = λ bytes x fits e.
      let a = some_from (r bytes) (λ x. q x.1 >>= λ y. Some ((x.0, y.0), y.1)) x e in
      let b = some_from (q a.0.1) (λ y. Some ((a.0.0, y.0), y.1)) x a.2 in
      let m = first.takes bytes a.0 fits a.1 in
      let n = second.takes a.0.1 b.0 m.rest_bytes b.1 in
      let stands : Stands (λ (p : V × W). F p.0 × G p.1) (λ p. s p.0 ++ t p.1) bytes (a.0.0, b.0.0) b.0.1 = record {
        parts = m.parts ∙ ap (λ (l : List ℕ). s a.0.0 ++ l) n.parts ∙ sym (append_assoc (s a.0.0) (t b.0.0) b.0.1);
        fits = (m.fits, n.fits);
        rest_bytes = n.rest_bytes;
      } in
      subst (λ (y : (V × W) × List ℕ). Stands (λ (p : V × W). F p.0 × G p.1) (λ p. s p.0 ++ t p.1) bytes y.0 y.1) (some_is ((a.0.0, b.0.0), b.0.1) x b.2) stands;
  again = λ value rest fits.
      ap (r & q) (append_assoc (s value.0) (t value.1) rest)
      ∙ ap (λ o. o >>= λ x. q x.1 >>= λ y. Some ((x.0, y.0), y.1)) (first.again value.0 (t value.1 ++ rest) fits.0)
      ∙ ap (λ o. o >>= λ y. Some ((value.0, y.0), y.1)) (second.again value.1 rest fits.1);
}

-- a value made of what a field reads
pub made_takes : {V W : Type 0} {F : V → Type 0} {s : V → List ℕ} {r : List ℕ → Option (V × List ℕ)} (f : V → W) → IsField F s r
    → (bytes : List ℕ) (x : W × List ℕ) → IsBytes bytes → made f r bytes ≡ Some x
    → (v : V) × Stands F s bytes v x.1 × (f v ≡ x.0)
made_takes {V} {W} {F} {s} {r} f field bytes x fits e =
    let a = some_from (r bytes) (λ x. Some (f x.0, x.1)) x e in
    let same = some_is (f a.0.0, a.0.1) x a.2 in
    let stands = field.takes bytes a.0 fits a.1 in
    (a.0.0, subst (λ (l : List ℕ). Stands F s bytes a.0.0 l) (ap (λ (y : W × List ℕ). y.1) same) stands, ap (λ (y : W × List ℕ). y.0) same)

pub made_again : {V W : Type 0} {F : V → Type 0} {s : V → List ℕ} {r : List ℕ → Option (V × List ℕ)} (f : V → W) → IsField F s r
    → (v : V) (rest : List ℕ) → F v → made f r (s v ++ rest) ≡ Some (f v, rest)
made_again f field v rest fits = ap (λ o. o >>= λ x. Some (f x.0, x.1)) (field.again v rest fits)

-- ---- one byte

abbrev pub any_byte : ℕ → Type 0
any_byte n = n < 256

byte_takes : (bytes : List ℕ) (x : ℕ × List ℕ) → IsBytes bytes → byte_read bytes ≡ Some x → Stands any_byte byte bytes x.0 x.1
unfolding byte_read
byte_takes [] x fits e = absurd cc
byte_takes (b ∷ bytes) x fits e =
    subst (λ (y : ℕ × List ℕ). Stands any_byte byte (b ∷ bytes) y.0 y.1) (some_is (b, bytes) x e) (record { parts = refl; fits = fits 0; rest_bytes = IsBytes-rest b bytes fits })

byte_again : (value : ℕ) (rest : List ℕ) → any_byte value → byte_read (byte value ++ rest) ≡ Some (value, rest)
unfolding byte_read
byte_again value rest fits = refl

pub byte_field : IsField any_byte byte byte_read
byte_field = record { takes = byte_takes; again = byte_again }

-- a byte that is a version
version_takes : (bytes : List ℕ) (x : ℕ × List ℕ) → IsBytes bytes → version_read bytes ≡ Some x → Stands IsVersion byte bytes x.0 x.1
unfolding version_read
version_takes bytes x fits e =
    let a = some_from (byte_read bytes) (λ v. cond (ltb v.0 1) None (cond (leb v.0 2) (Some v) None)) x e in
    let least = some_if_not (ltb a.0.0 1) (cond (leb a.0.0 2) (Some a.0) None) x a.2 in
    let greatest = some_if (leb a.0.0 2) (Some a.0) x least.1 in
    let m = byte_field.takes bytes a.0 fits a.1 in
    let stands : Stands IsVersion byte bytes a.0.0 a.0.1 = record { parts = m.parts; fits = (ltb-false a.0.0 1 least.0, leb-true a.0.0 2 greatest.0); rest_bytes = m.rest_bytes } in
    subst (λ (y : ℕ × List ℕ). Stands IsVersion byte bytes y.0 y.1) (some_is a.0 x greatest.1) stands

version_again : (version : ℕ) (rest : List ℕ) → IsVersion version → version_read (byte version ++ rest) ≡ Some (version, rest)
unfolding version_read byte_read
version_again version rest fits = rw (le-ltb version 1 fits.0, le-leb version 2 fits.1) refl

pub version_field : IsField IsVersion byte version_read
version_field = record { takes = version_takes; again = version_again }

-- ---- numbers

record IsWide (w : Width) (limit : ℕ) : Type 0 where
  len : (n : ℕ) → length (to_be_bytes w n) ≡ byte_len w
  back : (bytes : List ℕ) → length bytes ≡ byte_len w → IsBytes bytes → to_be_bytes w (from_be_bytes w bytes) ≡ bytes
  same : (n : ℕ) → n < limit → from_be_bytes w (to_be_bytes w n) ≡ n
  below : (bytes : List ℕ) → IsBytes bytes → from_be_bytes w bytes < limit

wide16 : IsWide w16 (2 ^ 16)
wide16 = record {
  len = λ n. refl;
  back = λ bytes len fits. be_bytes_2 bytes _ len fits refl;
  same = λ n lt. from_be_bytes-to_be_bytes_2 n lt;
  below = λ bytes fits. omega (arith, fits 0, fits 1);
}

wide32 : IsWide w32 (2 ^ 32)
wide32 = record {
  len = λ n. refl;
  back = λ bytes len fits. be_bytes_4 bytes _ len fits refl;
  same = λ n lt. from_be_bytes-to_be_bytes_4 n lt;
  below = λ bytes fits. omega (arith, fits 0, fits 1, fits 2, fits 3);
}

wide64 : IsWide w64 (2 ^ 64)
wide64 = record {
  len = λ n. refl;
  back = λ bytes len fits. be_bytes_8 bytes _ len fits refl;
  same = λ n lt. from_be_bytes-to_be_bytes_8 n lt;
  below = λ bytes fits. omega (arith, fits 0, fits 1, fits 2, fits 3, fits 4, fits 5, fits 6, fits 7);
}

number_takes : (w : Width) (limit : ℕ) (wide : IsWide w limit) (bytes : List ℕ) (x : ℕ × List ℕ) → IsBytes bytes → number_read w bytes ≡ Some x → Stands (λ n. n < limit) (to_be_bytes w) bytes x.0 x.1
number_takes w limit wide bytes x fits e =
    let front = take (byte_len w) bytes in
    let g = some_if_not (ltb (length bytes) (byte_len w)) (Some (from_be_bytes w front, drop (byte_len w) bytes)) x e in
    let long : byte_len w ≤ length bytes = ltb-false _ _ g.0 in
    let spelled : to_be_bytes w (from_be_bytes w front) ≡ front = wide.back front (omega (arith, length-take (byte_len w) bytes)) (IsBytes-take (byte_len w) bytes fits) in
    let stands : Stands (λ n. n < limit) (to_be_bytes w) bytes (from_be_bytes w front) (drop (byte_len w) bytes) = record {
      parts = rw spelled (sym (take-append-drop (byte_len w) bytes));
      fits = wide.below front (IsBytes-take (byte_len w) bytes fits);
      rest_bytes = IsBytes-drop (byte_len w) bytes fits;
    } in
    subst (λ (y : ℕ × List ℕ). Stands (λ n. n < limit) (to_be_bytes w) bytes y.0 y.1) (some_is _ x g.1) stands

number_again : (w : Width) (limit : ℕ) (wide : IsWide w limit) (n : ℕ) (rest : List ℕ) → n < limit → number_read w (to_be_bytes w n ++ rest) ≡ Some (n, rest)
number_again w limit wide n rest lt =
    let len = wide.len n in
    let long : ltb (length (to_be_bytes w n ++ rest)) (byte_len w) ≡ false = le-ltb _ _ (omega (arith, length-append (to_be_bytes w n) rest)) in
    rw (long, take_at (to_be_bytes w n) rest (byte_len w) len, drop_at (to_be_bytes w n) rest (byte_len w) len, wide.same n lt) refl

pub number16_field : IsField (λ n. n < 2 ^ 16) number16 number16_read
unfolding number16 number16_read
number16_field = record { takes = number_takes w16 (2 ^ 16) wide16; again = number_again w16 (2 ^ 16) wide16 }

pub number32_field : IsField (λ n. n < 2 ^ 32) number32 number32_read
unfolding number32 number32_read
number32_field = record { takes = number_takes w32 (2 ^ 32) wide32; again = number_again w32 (2 ^ 32) wide32 }

pub number64_field : IsField (λ n. n < 2 ^ 64) number64 number64_read
unfolding number64 number64_read
number64_field = record { takes = number_takes w64 (2 ^ 64) wide64; again = number_again w64 (2 ^ 64) wide64 }

-- a mode of any version is in the range of a tree
pub mode_in_range : (version mode : ℕ) → IsMode version mode → mode ≤ 1023
mode_in_range version mode fits = at (eqb version 1) fits
  where
    at : (first : Bool) → mode ≤ cond first 511 1023 → mode ≤ 1023
    at true below = let small : mode ≤ 511 = below in omega (arith, small)
    at false below = below

module _ (version : ℕ) where
  mode_takes : (bytes : List ℕ) (x : ℕ × List ℕ) → IsBytes bytes → mode_read version bytes ≡ Some x → Stands (IsMode version) number16 bytes x.0 x.1
  unfolding mode_read
  mode_takes bytes x fits e =
      let a = some_from (number16_read bytes) (λ n. cond (leb n.0 (greatest_mode_of version)) (Some n) None) x e in
      let g = some_if (leb a.0.0 (greatest_mode_of version)) (Some a.0) x a.2 in
      let m = number16_field.takes bytes a.0 fits a.1 in
      let stands : Stands (IsMode version) number16 bytes a.0.0 a.0.1 = record { parts = m.parts; fits = leb-true a.0.0 (greatest_mode_of version) g.0; rest_bytes = m.rest_bytes } in
      subst (λ (y : ℕ × List ℕ). Stands (IsMode version) number16 bytes y.0 y.1) (some_is a.0 x g.1) stands

  mode_again : (mode : ℕ) (rest : List ℕ) → IsMode version mode → mode_read version (number16 mode ++ rest) ≡ Some (mode, rest)
  unfolding mode_read
  mode_again mode rest fits =
      let small : mode ≤ 1023 = mode_in_range version mode fits in
      rw (number16_field.again mode rest (omega (arith, small)), le-leb mode (greatest_mode_of version) fits) refl

  pub mode_field : IsField (IsMode version) number16 (mode_read version)
  mode_field = record { takes = mode_takes; again = mode_again }

  group_takes : (bytes : List ℕ) (x : ℕ × List ℕ) → IsBytes bytes → group_read version bytes ≡ Some x → Stands (IsGroup version) number32 bytes x.0 x.1
  unfolding group_read
  group_takes bytes x fits e =
      let a = some_if_not (ltb version 2) (number32_read bytes) x e in
      let m = number32_field.takes bytes x fits a.1 in
      record { parts = m.parts; fits = (ltb-false version 2 a.0, m.fits); rest_bytes = m.rest_bytes }

  group_again : (group : ℕ) (rest : List ℕ) → IsGroup version group → group_read version (number32 group ++ rest) ≡ Some (group, rest)
  unfolding group_read
  group_again group rest fits = rw (le-ltb version 2 fits.0) (number32_field.again group rest fits.1)

  pub group_field : IsField (IsGroup version) number32 (group_read version)
  group_field = record { takes = group_takes; again = group_again }

-- ---- runs of bytes

pub run_takes : (count : ℕ) (bytes : List ℕ) (x : List ℕ × List ℕ) → IsBytes bytes → bytes_read count bytes ≡ Some x → (bytes ≡ x.0 ++ x.1) × (length x.0 ≡ count) × IsBytes x.1
run_takes count bytes x fits e =
    let g = some_if (leb count (length bytes)) (Some (take count bytes, drop count bytes)) x e in
    let long : count ≤ length bytes = leb-true count (length bytes) g.0 in
    subst (λ (y : List ℕ × List ℕ). (bytes ≡ y.0 ++ y.1) × (length y.0 ≡ count) × IsBytes y.1) (some_is (take count bytes, drop count bytes) x g.1)
    (sym (take-append-drop count bytes), omega (arith, length-take count bytes), IsBytes-drop count bytes fits)

pub run_again : (bytes rest : List ℕ) → bytes_read (length bytes) (bytes ++ rest) ≡ Some (bytes, rest)
run_again bytes rest =
    let long : leb (length bytes) (length (bytes ++ rest)) ≡ true = le-leb _ _ (omega (arith, length-append bytes rest)) in
    rw (long, take_at bytes rest (length bytes) refl, drop_at bytes rest (length bytes) refl) refl

name_takes : (bytes : List ℕ) (x : List ℕ × List ℕ) → IsBytes bytes → name_read bytes ≡ Some x → Stands IsName name_bytes bytes x.0 x.1
unfolding name_read
name_takes bytes x fits e =
    let a = some_from (byte_read bytes) (λ len. bytes_read len.0 len.1 >>= λ name. cond (is_name name.0) (Some name) None) x e in
    let b = some_from (bytes_read a.0.0 a.0.1) (λ name. cond (is_name name.0) (Some name) None) x a.2 in
    let g = some_if (is_name b.0.0) (Some b.0) x b.2 in
    let m = byte_field.takes bytes a.0 fits a.1 in
    let n = run_takes a.0.0 a.0.1 b.0 m.rest_bytes b.1 in
    let stands : Stands IsName name_bytes bytes b.0.0 b.0.1 = record {
      parts = m.parts ∙ ap (λ (l : List ℕ). a.0.0 ∷ l) n.0 ∙ ap (λ (k : ℕ). k ∷ (b.0.0 ++ b.0.1)) (sym n.1);
      fits = is_name_sound b.0.0 g.0;
      rest_bytes = n.2;
    } in
    subst (λ (y : List ℕ × List ℕ). Stands IsName name_bytes bytes y.0 y.1) (some_is b.0 x g.1) stands

name_again : (name rest : List ℕ) → IsName name → name_read (name_bytes name ++ rest) ≡ Some (name, rest)
unfolding name_read
name_again name rest fits =
    let len = byte_field.again (length name) (name ++ rest) (omega (arith, fits.short)) in
    rw (len, run_again name rest, is_name_true name fits) refl

pub name_field : IsField IsName name_bytes name_read
name_field = record { takes = name_takes; again = name_again }

payload_takes : (bytes : List ℕ) (x : List ℕ × List ℕ) → IsBytes bytes → payload_read bytes ≡ Some x → Stands IsPayload payload_bytes bytes x.0 x.1
unfolding payload_read
payload_takes bytes x fits e =
    let a = some_from (number32_read bytes) (λ len. cond (leb len.0 65536) (bytes_read len.0 len.1) None) x e in
    let g = some_if (leb a.0.0 65536) (bytes_read a.0.0 a.0.1) x a.2 in
    let m = number32_field.takes bytes a.0 fits a.1 in
    let n = run_takes a.0.0 a.0.1 x m.rest_bytes g.1 in
    let short : a.0.0 ≤ 65536 = leb-true a.0.0 65536 g.0 in
    record {
      parts = m.parts ∙ ap (λ (l : List ℕ). number32 a.0.0 ++ l) n.0 ∙ sym (append_assoc (number32 a.0.0) x.0 x.1) ∙ ap (λ (k : ℕ). number32 k ++ x.0 ++ x.1) (sym n.1);
      fits = omega (arith, n.1, short);
      rest_bytes = n.2;
    }

payload_again : (payload rest : List ℕ) → IsPayload payload → payload_read (payload_bytes payload ++ rest) ≡ Some (payload, rest)
unfolding payload_read
payload_again payload rest fits =
    let len = number32_field.again (length payload) (payload ++ rest) (omega (arith, fits)) in
    ap (λ (l : List ℕ). number32_read l >>= λ len. cond (leb len.0 65536) (bytes_read len.0 len.1) None) (append_assoc (number32 (length payload)) payload rest)
    ∙ rw (len, le-leb (length payload) 65536 fits) (run_again payload rest)

pub payload_field : IsField IsPayload payload_bytes payload_read
payload_field = record { takes = payload_takes; again = payload_again }

-- ---- kinds

-- the value of a byte that is tested against one number
pub byte_is : {V : Type 0} (b n : ℕ) (o p : Option V) (y : V) → cond (eqb b n) o p ≡ Some y → ((b ≡ n) × (o ≡ Some y)) ⊎ ((eqb b n ≡ false) × (p ≡ Some y))
byte_is {V} b n o p y e =
    let chosen : (t : Bool) → eqb b n ≡ t → cond t o p ≡ Some y → ((b ≡ n) × (o ≡ Some y)) ⊎ ((eqb b n ≡ false) × (p ≡ Some y)) =
    elim [ true ↦ λ is e. inl (eqb-true b n is, e) | false ↦ λ isnt e. inr (isnt, e) ] in
    chosen (eqb b n) refl e

kind_takes : (bytes : List ℕ) (x : Kind × List ℕ) → IsBytes bytes → kind_read bytes ≡ Some x → Stands (λ _. Unit {0}) kind_bytes bytes x.0 x.1
unfolding kind_read
kind_takes bytes x fits e =
    let a = some_from (byte_read bytes) (λ b. cond (eqb b.0 0) (Some (File, b.1)) (cond (eqb b.0 1) (Some (Directory, b.1)) None)) x e in
    let m = byte_field.takes bytes a.0 fits a.1 in
    let stands : (k : Kind) → a.0.0 ∷ a.0.1 ≡ kind_bytes k ++ a.0.1 → done (k, a.0.1) ≡ Some x → Stands (λ _. Unit {0}) kind_bytes bytes x.0 x.1 =
    λ k front is. subst (λ (y : Kind × List ℕ). Stands (λ _. Unit {0}) kind_bytes bytes y.0 y.1) (some_is (k, a.0.1) x is) (record { parts = m.parts ∙ front; fits = tt; rest_bytes = m.rest_bytes }) in
    elim (byte_is a.0.0 0 (Some (File, a.0.1)) (cond (eqb a.0.0 1) (Some (Directory, a.0.1)) None) x a.2) [
      | inl p ↦ stands File (ap (λ (b : ℕ). b ∷ a.0.1) p.0) p.1
      | inr q ↦ elim (byte_is a.0.0 1 (Some (Directory, a.0.1)) None x q.1) [
        | inl p ↦ stands Directory (ap (λ (b : ℕ). b ∷ a.0.1) p.0) p.1
        | inr n ↦ let never : None ≡ done x = n.1 in absurd cc
      ]
    ]

kind_again : (k : Kind) (rest : List ℕ) → Unit {0} → kind_read (kind_bytes k ++ rest) ≡ Some (k, rest)
unfolding kind_read byte_read
kind_again File rest fits = refl
kind_again Directory rest fits = refl

pub kind_field : IsField (λ _. Unit {0}) kind_bytes kind_read
kind_field = record { takes = kind_takes; again = kind_again }

-- ---- values behind a tag

-- what is read behind a tag stands there, tag and all
pub tagged_takes : {V W : Type 0} {F : V → Type 0} {s : V → List ℕ} {r : List ℕ → Option (V × List ℕ)} {G : W → Type 0} {t : W → List ℕ} (n : ℕ) (f : V → W) → IsField F s r
    → ((v : V) → t (f v) ≡ n ∷ s v) → ((v : V) → F v → G (f v))
    → (bytes after : List ℕ) (tag : ℕ) (x : W × List ℕ) → bytes ≡ tag ∷ after → IsBytes after → tag ≡ n → made f r after ≡ Some x → Stands G t bytes x.0 x.1
tagged_takes {V} {W} {F} {s} {r} {G} {t} n f field spelled fit bytes after tag x front fits is e =
    let a = made_takes f field after x fits e in
    let stands : Stands G t bytes (f a.0) x.1 = record {
      parts = front ∙ ap (λ (k : ℕ). k ∷ after) is ∙ ap (λ (l : List ℕ). n ∷ l) a.1.parts ∙ ap (λ (l : List ℕ). l ++ x.1) (sym (spelled a.0));
      fits = fit a.0 a.1.fits;
      rest_bytes = a.1.rest_bytes;
    } in
    subst (λ (w : W). Stands G t bytes w x.1) a.2 stands

-- a record is read as its fields are
pub record_field : {V W : Type 0} {F : V → Type 0} {s : V → List ℕ} {r : List ℕ → Option (V × List ℕ)} {G : W → Type 0} {t : W → List ℕ} (f : V → W) (g : W → V) → IsField F s r
    → ((w : W) → f (g w) ≡ w) → ((v : V) → g (f v) ≡ v) → ((w : W) → t w ≡ s (g w)) → ((w : W) → F (g w) → G w) → ((w : W) → G w → F (g w))
    → IsField G t (made f r)
record_field {V} {W} {F} {s} {r} {G} {t} f g field there back spelled fit fit_fields = record {
  takes = λ bytes x fits e.
      let a = made_takes f field bytes x fits e in
      let same : a.0 ≡ g x.0 = sym (back a.0) ∙ ap g a.2 in
      let stands : Stands F s bytes (g x.0) x.1 = subst (λ (v : V). Stands F s bytes v x.1) same a.1 in
      record { parts = stands.parts ∙ ap (λ (l : List ℕ). l ++ x.1) (sym (spelled x.0)); fits = fit x.0 stands.fits; rest_bytes = stands.rest_bytes };
  again = λ value rest fits.
      ap (λ (l : List ℕ). made f r (l ++ rest)) (spelled value) ∙ made_again f field (g value) rest (fit_fields value fits) ∙ ap (λ (w : W). Some (w, rest)) (there value);
}
