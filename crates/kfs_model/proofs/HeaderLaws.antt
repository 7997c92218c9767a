-- The laws of the headers of a log and of a plan.
use Rattle.std.proofs.Common.{◌≡◌, ℕ, ◌≤◌, cond, leb, List, [], ◌∷◌, ◌++◌, Some, None, refl, subst, arith}
use Rattle.std.proofs.lemmas.Bool.{leb-true, le-leb}
use Rattle.kfs_model.specs.Spelling.{IsBytes, IsLogHeader, log_header, IsPlanHeader, plan_header, number16}
use Rattle.kfs_model.proofs.Reading.{number16_read, count_read, log_header_read, plan_header_read}
use Rattle.kfs_model.proofs.MarkField.{mark_field}
use Rattle.kfs_model.proofs.Fields.{some_from, some_if, some_is, Stands, IsField, both, version_field, number16_field, number32_field, record_field}

abbrev is_count : ℕ → Type 0
is_count n = n ≤ 4096

count_takes : (bytes : List ℕ) (x : ℕ × List ℕ) → IsBytes bytes → count_read bytes ≡ Some x → Stands is_count number16 bytes x.0 x.1
unfolding count_read
count_takes bytes x fits e =
    let a = some_from (number16_read bytes) (λ n. cond (leb n.0 4096) (Some n) None) x e in
    let g = some_if (leb a.0.0 4096) (Some a.0) x a.2 in
    let m = number16_field.takes bytes a.0 fits a.1 in
    let stands : Stands is_count number16 bytes a.0.0 a.0.1 = record { parts = m.parts; fits = leb-true a.0.0 4096 g.0; rest_bytes = m.rest_bytes } in
    subst (λ (y : ℕ × List ℕ). Stands is_count number16 bytes y.0 y.1) (some_is a.0 x g.1) stands

count_again : (count : ℕ) (rest : List ℕ) → is_count count → count_read (number16 count ++ rest) ≡ Some (count, rest)
unfolding count_read
count_again count rest fits = rw (number16_field.again count rest (omega arith), le-leb count 4096 fits) refl

count_field : IsField is_count number16 count_read
count_field = record { takes = count_takes; again = count_again }

pub log_header_field : IsField IsLogHeader log_header log_header_read
unfolding log_header_read
log_header_field = record_field (λ f. record { version = f.0.0.1; client = f.0.1; count = f.1 }) (λ h. (((tt, h.version), h.client), h.count)) (both (both (both (mark_field (75 ∷ 76 ∷ 79 ∷ 71 ∷ [])) version_field) number32_field) count_field)
    (λ h. refl) (λ v. refl) (λ h. refl) (λ h f. (f.0.0.1, f.0.1, f.1)) (λ h f. (((tt, f.0), f.1), f.2))

pub plan_header_field : IsField IsPlanHeader plan_header plan_header_read
unfolding plan_header_read
plan_header_field = record_field (λ f. record { version = f.0.0.0.1; names = f.0.0.1; nodes = f.0.1; pieces = f.1 }) (λ h. ((((tt, h.version), h.names), h.nodes), h.pieces))
    (both (both (both (both (mark_field (75 ∷ 80 ∷ 76 ∷ 78 ∷ [])) version_field) number16_field) number16_field) number32_field)
    (λ h. refl) (λ v. refl) (λ h. refl) (λ h f. (f.0.0.0.1, f.0.0.1, f.0.1, f.1)) (λ h f. ((((tt, f.0), f.1), f.2), f.3))
