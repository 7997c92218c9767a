-- The laws of a state's header and rows: what is read stands there, and what is written is read.
use Rattle.std.proofs.Common.{◌≡◌, ℕ, ◌*◌, ◌^◌, ◌<◌, ◌≤◌, cond, leb, List, [], ◌∷◌, ◌++◌, length, map, Some, None, Result, Ok, Err, refl, sym, ap, subst, ◌∙◌, arith}
use Rattle.std.specs.List.{flat_map, AllByRecursion}
use Rattle.std.proofs.lemmas.Bool.{leb-true, le-leb}
use Rattle.kfs_model.specs.Spelling.{IsBytes, number32}
use Rattle.kfs_model.proofs.Reading.{byte_read, number32_read}
use Rattle.kfs_model.proofs.MarkField.{mark_field}
use Rattle.kfs_model.proofs.Fields.{some_from, some_if, some_is, Stands, IsField, both, byte_field, number32_field, number64_field, record_field}
use Rattle.kfs_call.specs.StateRows.{groups_bytes, AreGroups, IsClientRow, client_bytes, IsLeaseRow, lease_bytes, IsStateHeader, state_header}
use Rattle.kfs_call.specs.Readers.{rows_at}
use Rattle.kfs_call.specs.StateReaders.{some_read, groups_read, client_read, lease_row_read, state_header_read}
use Rattle.kfs_call.proofs.Layouts.{Found, rows_layout}
use Rattle.kfs_call.proofs.MoveRows.{joined-map}
use Rattle.kfs_call.proofs.CallLaws.{kind_field}
use Rattle.kfs_call.proofs.AnswerLaws.{flag_field}

abbrev is_group : ℕ → Type 0
is_group g = g < 2 ^ 32

no_group : is_group 0
no_group = omega arith

module _ (count : ℕ) (few : count ≤ 16) (bytes after : List ℕ) (front : bytes ≡ count ∷ after) where
  each_takes : (found : Result (List ℕ × List ℕ) ℕ) → Found (λ (rows : List ℕ). (length rows ≡ count) × AllByRecursion is_group rows) (map number32) 0 after found → (x : List ℕ × List ℕ) → some_read found ≡ Some x → Stands AreGroups groups_bytes bytes x.0 x.1
  each_takes (Ok y) stand x e =
      let same : y ≡ x = some_is y x e in
      let number : length y.0 ≡ count = stand.0.0 in
      let stands : Stands AreGroups groups_bytes bytes y.0 y.1 = record {
        parts = front ∙ ap (λ (l : List ℕ). count ∷ l) (stand.1 ∙ ap (λ (l : List ℕ). l ++ y.1) (joined-map number32 y.0)) ∙ ap (λ (n : ℕ). n ∷ (flat_map number32 y.0 ++ y.1)) (sym number);
        fits = (let short : length y.0 ≤ 16 = omega arith in short, stand.0.1);
        rest_bytes = stand.2;
      } in
      subst (λ (z : List ℕ × List ℕ). Stands AreGroups groups_bytes bytes z.0 z.1) same stands
  each_takes (Err k) stand x e = absurd cc

groups_takes : (bytes : List ℕ) (x : List ℕ × List ℕ) → IsBytes bytes → groups_read bytes ≡ Some x → Stands AreGroups groups_bytes bytes x.0 x.1
unfolding groups_read
groups_takes bytes x fits e =
    let a = some_from (byte_read bytes) (λ n. cond (leb n.0 16) (some_read (rows_at number32_read 0 n.0 n.1)) None) x e in
    let g = some_if (leb a.0.0 16) (some_read (rows_at number32_read 0 a.0.0 a.0.1)) x a.2 in
    let m = byte_field.takes bytes a.0 fits a.1 in
    each_takes a.0.0 (leb-true a.0.0 16 g.0) bytes a.0.1 m.parts (rows_at number32_read 0 a.0.0 a.0.1) ((rows_layout is_group number32 number32_read number32_field 0 no_group a.0.0 0).takes a.0.1 m.rest_bytes) x g.1

groups_again : (groups rest : List ℕ) → AreGroups groups → groups_read (groups_bytes groups ++ rest) ≡ Some (groups, rest)
unfolding groups_read byte_read
groups_again groups rest fits =
    let read = (rows_layout is_group number32 number32_read number32_field 0 no_group (length groups) 0).again groups rest (refl, fits.1) in
    rw (le-leb (length groups) 16 fits.0) (ap (λ (l : List ℕ). some_read (rows_at number32_read 0 (length groups) (l ++ rest))) (sym (joined-map number32 groups)) ∙ ap some_read read)

-- each group has four bytes
pub groups_length : (groups : List ℕ) → length (flat_map number32 groups) ≡ 4 * length groups
unfolding number32
groups_length [] = refl
groups_length (g ∷ groups) = let rest : length (flat_map number32 groups) ≡ 4 * length groups = groups_length groups in omega (arith, rest)

pub groups_field : IsField AreGroups groups_bytes groups_read
groups_field = record { takes = groups_takes; again = groups_again }

pub client_field : IsField IsClientRow client_bytes client_read
unfolding client_read
client_field = record_field (λ f. record { number = f.0.0.0.0.0.0; uid = f.0.0.0.0.0.1; gid = f.0.0.0.0.1; groups = f.1; privileged = f.0.0.0.1; first = f.0.0.1; last = f.0.1 })
    (λ c. ((((((c.number, c.uid), c.gid), c.privileged), c.first), c.last), c.groups))
    (both (both (both (both (both (both number32_field number32_field) number32_field) flag_field) number32_field) number32_field) groups_field)
    (λ c. refl) (λ v. refl) (λ c. refl) (λ c h. (h.0.0.0.0.0.0, h.0.0.0.0.0.1, h.0.0.0.0.1, h.0.0.1, h.0.1, h.1)) (λ c h. ((((((h.0, h.1), h.2), tt), h.3), h.4), h.5))

pub lease_row_field : IsField IsLeaseRow lease_bytes lease_row_read
unfolding lease_row_read
lease_row_field = record_field (λ f. record { node = f.0.0.0; client = f.0.0.1; kind = f.0.1; end = f.1 }) (λ l. (((l.node, l.client), l.kind), l.end))
    (both (both (both number32_field number32_field) kind_field) number64_field)
    (λ l. refl) (λ v. refl) (λ l. refl) (λ l h. (h.0.0.0, h.0.0.1, h.1)) (λ l h. (((h.0, h.1), tt), h.2))

pub state_header_field : IsField IsStateHeader state_header state_header_read
unfolding state_header_read
state_header_field = record_field (λ f. record { moment = f.0.0.1; clients = f.0.1; leases = f.1 }) (λ h. (((tt, h.moment), h.clients), h.leases))
    (both (both (both (mark_field (75 ∷ 68 ∷ 83 ∷ 75 ∷ 1 ∷ [])) number64_field) number32_field) number32_field)
    (λ h. refl) (λ v. refl) (λ h. refl) (λ h f. (f.0.0.1, f.0.1, f.1)) (λ h f. (((tt, f.0), f.1), f.2))
