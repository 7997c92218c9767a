-- The laws of an image's rows and of its header: what is read stands there, and what is encoded is read.
use Rattle.std.proofs.Common.{◌≡◌, ℕ, ◌*◌, ◌^◌, ◌<◌, ◌≤◌, Bool, true, false, cond, ltb, leb, List, [], ◌∷◌, ◌++◌, length, take, drop, Option, Some, None, refl, sym, ap, subst, ◌∙◌, append_assoc, arith}
use Rattle.std.proofs.lemmas.Bool.{ltb-false, leb-true, le-leb, le-ltb}
use Rattle.std.proofs.lemmas.List.{take_at, drop_at, take-append-drop, length-append, length-take}
use Rattle.kfs_model.specs.Steps.{◌>>=◌}
use Rattle.kfs_model.specs.Spelling.{IsBytes, byte, number32}
use Rattle.kfs_model.proofs.Reading.{byte_read, number32_read, bytes_read}
use Rattle.kfs_model.proofs.MarkField.{mark_field}
use Rattle.kfs_model.proofs.Fields.{IsBytes-drop, some_from, some_if, some_is, Stands, IsField, both, byte_field, number16_field, number32_field, number64_field, kind_field, version_field, record_field}
use Rattle.kfs_model.specs.Device.Spelling.{raw_node_bytes, IsRawNode, extent_bytes, IsExtentRow, image_header, IsImageHeader}
use Rattle.kfs_model.proofs.DeviceLemmas.ImageReading.{limited_read, tier_read, run_read, blocks_read, raw_node_read, extent_read, image_header_read}

-- ---- numbers up to a limit

module _ (limit : ℕ) (narrow : limit < 2 ^ 32) where
  limited_takes : (bytes : List ℕ) (x : ℕ × List ℕ) → IsBytes bytes → limited_read limit bytes ≡ Some x → Stands (λ n. n ≤ limit) number32 bytes x.0 x.1
  unfolding limited_read
  limited_takes bytes x fits e =
      let a = some_from (number32_read bytes) (λ n. cond (leb n.0 limit) (Some n) None) x e in
      let g = some_if (leb a.0.0 limit) (Some a.0) x a.2 in
      let m = number32_field.takes bytes a.0 fits a.1 in
      let stands : Stands (λ n. n ≤ limit) number32 bytes a.0.0 a.0.1 = record { parts = m.parts; fits = leb-true a.0.0 limit g.0; rest_bytes = m.rest_bytes } in
      subst (λ (y : ℕ × List ℕ). Stands (λ n. n ≤ limit) number32 bytes y.0 y.1) (some_is a.0 x g.1) stands

  limited_again : (n : ℕ) (rest : List ℕ) → n ≤ limit → limited_read limit (number32 n ++ rest) ≡ Some (n, rest)
  unfolding limited_read
  limited_again n rest fits = rw (number32_field.again n rest (omega (arith, fits, narrow)), le-leb n limit fits) refl

  limited_field : IsField (λ n. n ≤ limit) number32 (limited_read limit)
  limited_field = record { takes = limited_takes; again = limited_again }

abbrev is_tier : ℕ → Type 0
is_tier n = n ≤ 2

tier_takes : (bytes : List ℕ) (x : ℕ × List ℕ) → IsBytes bytes → tier_read bytes ≡ Some x → Stands is_tier byte bytes x.0 x.1
unfolding tier_read
tier_takes bytes x fits e =
    let a = some_from (byte_read bytes) (λ n. cond (leb n.0 2) (Some n) None) x e in
    let g = some_if (leb a.0.0 2) (Some a.0) x a.2 in
    let m = byte_field.takes bytes a.0 fits a.1 in
    let stands : Stands is_tier byte bytes a.0.0 a.0.1 = record { parts = m.parts; fits = leb-true a.0.0 2 g.0; rest_bytes = m.rest_bytes } in
    subst (λ (y : ℕ × List ℕ). Stands is_tier byte bytes y.0 y.1) (some_is a.0 x g.1) stands

tier_again : (n : ℕ) (rest : List ℕ) → is_tier n → tier_read (byte n ++ rest) ≡ Some (n, rest)
unfolding tier_read byte_read
tier_again n rest fits = rw (le-leb n 2 fits) refl

tier_field : IsField is_tier byte tier_read
tier_field = record { takes = tier_takes; again = tier_again }

-- ---- a run of blocks behind its count

abbrev is_run : ℕ × List ℕ → Type 0
is_run run = (1 ≤ run.0) × (run.0 ≤ 65536) × (length run.1 ≡ run.0 * 4096)

abbrev run_bytes : ℕ × List ℕ → List ℕ
run_bytes run = number32 run.0 ++ run.1

abbrev count_field : IsField (λ n. n ≤ 65536) number32 (limited_read 65536)
count_field = limited_field 65536 (omega arith)

some_if_not : {V : Type 0} (b : Bool) (o : Option V) (y : V) → cond b None o ≡ Some y → (b ≡ false) × (o ≡ Some y)
some_if_not true o y e = absurd cc
some_if_not false o y e = (refl, e)

-- what is read behind a count that was read
run_behind : (bytes : List ℕ) (count : ℕ) (after : List ℕ) (x : (ℕ × List ℕ) × List ℕ) → Stands (λ n. n ≤ 65536) number32 bytes count after → run_read count after ≡ Some x → Stands is_run run_bytes bytes x.0 x.1
run_behind bytes count after x counted e =
    let many = some_if_not (ltb count 1) _ x e in
    let a = some_from (bytes_read (count * 4096) after) (λ run. Some ((count, run.0), run.1)) x many.1 in
    let g = some_if (leb (count * 4096) (length after)) (Some (take (count * 4096) after, drop (count * 4096) after)) a.0 a.1 in
    let long : count * 4096 ≤ length after = leb-true _ _ g.0 in
    let run = take (count * 4096) after in
    let stands : Stands is_run run_bytes bytes (count, run) (drop (count * 4096) after) = record {
      parts = counted.parts ∙ ap (λ (l : List ℕ). number32 count ++ l) (sym (take-append-drop (count * 4096) after)) ∙ sym (append_assoc (number32 count) run (drop (count * 4096) after));
      fits = (ltb-false count 1 many.0, counted.fits, omega (arith, length-take (count * 4096) after, long));
      rest_bytes = IsBytes-drop (count * 4096) after counted.rest_bytes;
    } in
    subst (λ (y : (ℕ × List ℕ) × List ℕ). Stands is_run run_bytes bytes y.0 y.1) (ap (λ (y : List ℕ × List ℕ). ((count, y.0), y.1)) (some_is _ a.0 g.1) ∙ some_is ((count, a.0.0), a.0.1) x a.2) stands

blocks_takes : (bytes : List ℕ) (x : (ℕ × List ℕ) × List ℕ) → IsBytes bytes → blocks_read bytes ≡ Some x → Stands is_run run_bytes bytes x.0 x.1
unfolding blocks_read
blocks_takes bytes x fits e =
    let a = some_from (limited_read 65536 bytes) (λ count. run_read count.0 count.1) x e in
    run_behind bytes a.0.0 a.0.1 x (count_field.takes bytes a.0 fits a.1) a.2

run_again : (run : ℕ × List ℕ) (rest : List ℕ) → is_run run → run_read run.0 (run.1 ++ rest) ≡ Some (run, rest)
run_again run rest fits =
    let long : leb (run.0 * 4096) (length (run.1 ++ rest)) ≡ true = le-leb _ _ (omega (arith, length-append run.1 rest, fits.2)) in
    rw (le-ltb run.0 1 fits.0, long, take_at run.1 rest (run.0 * 4096) fits.2, drop_at run.1 rest (run.0 * 4096) fits.2) refl

blocks_again : (run : ℕ × List ℕ) (rest : List ℕ) → is_run run → blocks_read (run_bytes run ++ rest) ≡ Some (run, rest)
unfolding blocks_read
blocks_again run rest fits =
    ap (λ (l : List ℕ). limited_read 65536 l >>= λ count. run_read count.0 count.1) (append_assoc (number32 run.0) run.1 rest)
    ∙ ap (λ o. o >>= λ count. run_read count.0 count.1) (count_field.again run.0 (run.1 ++ rest) fits.1)
    ∙ run_again run rest fits

blocks_field : IsField is_run run_bytes blocks_read
blocks_field = record { takes = blocks_takes; again = blocks_again }

-- ---- rows and the header

pub raw_node_field : IsField IsRawNode raw_node_bytes raw_node_read
unfolding raw_node_read
raw_node_field = record_field (λ f. record { number = f.0.0.0.0.0.0; header = record { kind = f.0.0.0.0.0.1; mode = f.0.0.0.0.1; uid = f.0.0.0.1; gid = f.0.0.1; links = f.0.1; size = f.1 } })
    (λ r. ((((((r.number, r.header.kind), r.header.mode), r.header.uid), r.header.gid), r.header.links), r.header.size))
    (both (both (both (both (both (both number32_field kind_field) number16_field) number32_field) number32_field) number16_field) number64_field)
    (λ r. refl) (λ v. refl) (λ r. refl) (λ r h. (h.0.0.0.0.0.0, (h.0.0.0.0.1, h.0.0.0.1, h.0.0.1, h.0.1, h.1))) (λ r h. ((((((h.0, tt), h.1.0), h.1.1), h.1.2), h.1.3), h.1.4))

below_limit : (n : ℕ) → n ≤ 65535 → n < 65536
below_limit n le = omega (arith, le)

up_to_limit : (n : ℕ) → n < 65536 → n ≤ 65535
up_to_limit n lt = omega (arith, lt)

pub extent_field : IsField IsExtentRow extent_bytes extent_read
unfolding extent_read
extent_field = record_field (λ f. record { number = f.0.0.0.0; block = f.0.0.0.1; tier = f.0.0.1; place = f.0.1; count = f.1.0; bytes = f.1.1 })
    (λ r. ((((r.number, r.block), r.tier), r.place), (r.count, r.bytes)))
    (both (both (both (both number32_field (limited_field 1048575 (omega arith))) tier_field) (limited_field 65535 (omega arith))) blocks_field)
    (λ r. refl) (λ v. refl) (λ r. append_assoc (number32 r.number ++ number32 r.block ++ byte r.tier ++ number32 r.place) (number32 r.count) r.bytes)
    (λ r h. (h.0.0.0.0, h.0.0.0.1, h.0.0.1, below_limit r.place h.0.1, h.1.0, h.1.1, h.1.2)) (λ r h. ((((h.0, h.1), h.2), up_to_limit r.place h.3), (h.4, h.5, h.6)))

pub image_header_field : IsField IsImageHeader image_header image_header_read
unfolding image_header_read
image_header_field = record_field
    (λ f. record { version = f.0.0.0.0.0.0.1; sizes = record { first = f.0.0.0.0.0.1; second = f.0.0.0.0.1; third = f.0.0.0.1 }; nodes = f.0.0.1; names = f.0.1; extents = f.1 })
    (λ h. (((((((tt, h.version), h.sizes.first), h.sizes.second), h.sizes.third), h.nodes), h.names), h.extents))
    (both (both (both (both (both (both (both (mark_field (75 ∷ 73 ∷ 77 ∷ 71 ∷ [])) version_field) count_field) count_field) count_field) number32_field) number32_field) number32_field)
    (λ h. refl) (λ v. refl) (λ h. refl)
    (λ h f. (f.0.0.0.0.0.0.1, (f.0.0.0.0.0.1, f.0.0.0.0.1, f.0.0.0.1), f.0.0.1, f.0.1, f.1)) (λ h f. (((((((tt, f.0), f.1.0), f.1.1), f.1.2), f.2), f.3), f.4))
