-- The laws of a plan's rows: what is read is a row that stands there, and what is encoded is read.
use Rattle.std.proofs.Common.{◌≡◌, ℕ, ◌^◌, ◌<◌, cond, eqb, List, ◌∷◌, ◌++◌, Option, Some, None, refl, ap, subst, ◌∙◌, inl, inr}
use Rattle.kfs_model.specs.Header.{Kind, File, Directory, Header}
use Rattle.kfs_model.specs.PlanRow.{Source, Zero, Payload}
use Rattle.kfs_model.specs.Spelling.{IsBytes, name_row_bytes, IsNameRow, header_bytes, IsHeader, node_row_bytes, IsNodeRow, source_bytes, IsSource, piece_bytes, IsPiece}
use Rattle.kfs_model.proofs.Reading.{◌&◌, made, byte_read, number16_read, number32_read, name_row_read, present_read, header_read, node_row_read, source_read, piece_read}
use Rattle.kfs_model.proofs.Fields.{some_from, some_is, Stands, IsField, both, made_again, byte_field, byte_is, number16_field, number32_field, number64_field, name_field, tagged_takes, record_field}

pub name_row_field : IsField IsNameRow name_row_bytes name_row_read
unfolding name_row_read
name_row_field = record_field (λ f. record { directory = f.0.0; name = f.0.1; number = f.1 }) (λ r. ((r.directory, r.name), r.number)) (both (both number32_field name_field) number32_field)
    (λ r. refl) (λ v. refl) (λ r. refl) (λ r h. (h.0.0, h.0.1, h.1)) (λ r h. ((h.0, h.1), h.2))

header_takes : (bytes : List ℕ) (x : Option Header × List ℕ) → IsBytes bytes → header_read bytes ≡ Some x → Stands IsHeader header_bytes bytes x.0 x.1
unfolding header_read
header_takes bytes x fits e =
    let a = some_from (byte_read bytes) (λ s. cond (eqb s.0 0) (Some (None, s.1)) (cond (eqb s.0 1) (present_read File s.1) (cond (eqb s.0 2) (present_read Directory s.1) None))) x e in
    let m = byte_field.takes bytes a.0 fits a.1 in
    elim (byte_is a.0.0 0 (Some (None, a.0.1)) _ x a.2) [
      | inl p ↦
          let gone : Stands IsHeader header_bytes bytes None a.0.1 = record { parts = m.parts ∙ ap (λ (b : ℕ). b ∷ a.0.1) p.0; fits = tt; rest_bytes = m.rest_bytes } in
          subst (λ (y : Option Header × List ℕ). Stands IsHeader header_bytes bytes y.0 y.1) (some_is (None, a.0.1) x p.1) gone
      | inr q ↦ elim (byte_is a.0.0 1 (present_read File a.0.1) _ x q.1) [
        | inl p ↦ tagged_takes 1 (λ f. Some (record { kind = File; mode = f.0.0.0.0; uid = f.0.0.0.1; gid = f.0.0.1; links = f.0.1; size = f.1 })) (both (both (both (both number16_field number32_field) number32_field) number16_field) number64_field)
            (λ v. refl) (λ v h. (h.0.0.0.0, h.0.0.0.1, h.0.0.1, h.0.1, h.1)) bytes a.0.1 a.0.0 x m.parts m.rest_bytes p.0 p.1
        | inr q ↦ elim (byte_is a.0.0 2 (present_read Directory a.0.1) None x q.1) [
          | inl p ↦ tagged_takes 2 (λ f. Some (record { kind = Directory; mode = f.0.0.0.0; uid = f.0.0.0.1; gid = f.0.0.1; links = f.0.1; size = f.1 })) (both (both (both (both number16_field number32_field) number32_field) number16_field) number64_field)
              (λ v. refl) (λ v h. (h.0.0.0.0, h.0.0.0.1, h.0.0.1, h.0.1, h.1)) bytes a.0.1 a.0.0 x m.parts m.rest_bytes p.0 p.1
          | inr q ↦ let never : None ≡ Some x = q.1 in absurd cc
        ]
      ]
    ]

present_again : (k : Kind) (mode uid gid links size : ℕ) (rest : List ℕ) → (mode < 2 ^ 16) × (uid < 2 ^ 32) × (gid < 2 ^ 32) × (links < 2 ^ 16) × (size < 2 ^ 64)
    → header_read (header_bytes (Some (record { kind = k; mode = mode; uid = uid; gid = gid; links = links; size = size })) ++ rest)
    ≡ Some (Some (record { kind = k; mode = mode; uid = uid; gid = gid; links = links; size = size }), rest)
unfolding header_read byte_read
present_again File mode uid gid links size rest h =
    made_again (λ f. Some (record { kind = File; mode = f.0.0.0.0; uid = f.0.0.0.1; gid = f.0.0.1; links = f.0.1; size = f.1 })) (both (both (both (both number16_field number32_field) number32_field) number16_field) number64_field)
    ((((mode, uid), gid), links), size) rest ((((h.0, h.1), h.2), h.3), h.4)
present_again Directory mode uid gid links size rest h =
    made_again (λ f. Some (record { kind = Directory; mode = f.0.0.0.0; uid = f.0.0.0.1; gid = f.0.0.1; links = f.0.1; size = f.1 })) (both (both (both (both number16_field number32_field) number32_field) number16_field) number64_field)
    ((((mode, uid), gid), links), size) rest ((((h.0, h.1), h.2), h.3), h.4)

header_again : (now : Option Header) (rest : List ℕ) → IsHeader now → header_read (header_bytes now ++ rest) ≡ Some (now, rest)
unfolding header_read byte_read
header_again None rest fits = refl
header_again (Some h) rest fits = present_again h.kind h.mode h.uid h.gid h.links h.size rest fits

pub header_field : IsField IsHeader header_bytes header_read
header_field = record { takes = header_takes; again = header_again }

pub node_row_field : IsField IsNodeRow node_row_bytes node_row_read
unfolding node_row_read
node_row_field = record_field (λ f. record { number = f.0; now = f.1 }) (λ r. (r.number, r.now)) (both number32_field header_field)
    (λ r. refl) (λ v. refl) (λ r. refl) (λ r h. (h.0, h.1)) (λ r h. (h.0, h.1))

source_takes : (bytes : List ℕ) (x : Source × List ℕ) → IsBytes bytes → source_read bytes ≡ Some x → Stands IsSource source_bytes bytes x.0 x.1
unfolding source_read
source_takes bytes x fits e =
    let a = some_from (byte_read bytes) (λ s. cond (eqb s.0 0) (Some (Zero, s.1)) (cond (eqb s.0 1) (made (λ f. Payload f.0 f.1) (number16_read & number32_read) s.1) None)) x e in
    let m = byte_field.takes bytes a.0 fits a.1 in
    elim (byte_is a.0.0 0 (Some (Zero, a.0.1)) _ x a.2) [
      | inl p ↦
          let zero_bytes : Stands IsSource source_bytes bytes Zero a.0.1 = record { parts = m.parts ∙ ap (λ (b : ℕ). b ∷ a.0.1) p.0; fits = tt; rest_bytes = m.rest_bytes } in
          subst (λ (y : Source × List ℕ). Stands IsSource source_bytes bytes y.0 y.1) (some_is (Zero, a.0.1) x p.1) zero_bytes
      | inr q ↦ elim (byte_is a.0.0 1 (made (λ f. Payload f.0 f.1) (number16_read & number32_read) a.0.1) None x q.1) [
        | inl p ↦ tagged_takes 1 (λ f. Payload f.0 f.1) (both number16_field number32_field)
            (λ v. refl) (λ v h. (h.0, h.1)) bytes a.0.1 a.0.0 x m.parts m.rest_bytes p.0 p.1
        | inr q ↦ let never : None ≡ Some x = q.1 in absurd cc
      ]
    ]

source_again : (s : Source) (rest : List ℕ) → IsSource s → source_read (source_bytes s ++ rest) ≡ Some (s, rest)
unfolding source_read byte_read
source_again Zero rest fits = refl
source_again (Payload entry place) rest fits = made_again (λ f. Payload f.0 f.1) (both number16_field number32_field) (entry, place) rest (fits.0, fits.1)

pub source_field : IsField IsSource source_bytes source_read
source_field = record { takes = source_takes; again = source_again }

pub piece_field : IsField IsPiece piece_bytes piece_read
unfolding piece_read
piece_field = record_field (λ f. record { number = f.0.0.0; start = f.0.0.1; length = f.0.1; source = f.1 }) (λ p. (((p.number, p.start), p.length), p.source)) (both (both (both number32_field number64_field) number64_field) source_field)
    (λ r. refl) (λ v. refl) (λ r. refl) (λ r h. (h.0.0.0, h.0.0.1, h.0.1, h.1)) (λ r h. (((h.0, h.1), h.2), h.3))
