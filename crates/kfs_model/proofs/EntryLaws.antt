-- The laws of an entry in a log of one version: what is read is an entry that stands there, and what is
-- encoded is read.
use Rattle.std.proofs.Common.{◌≡◌, ℕ, List, ◌∷◌, ◌++◌, Some, None, refl, inl, inr}
use Rattle.std.proofs.lemmas.Bool.{leb-true}
use Rattle.kfs_model.specs.Entry.{Entry, Create, Write, Truncate, Link, Unlink, Rename, Chmod, Regroup}
use Rattle.kfs_model.specs.Limits.{latest_version}
use Rattle.kfs_model.specs.Spelling.{IsBytes, entry_bytes, IsEntry}
use Rattle.kfs_model.proofs.Reading.{create_of, write_of, truncate_of, link_of, unlink_of, rename_of, chmod_of, regroup_of, byte_read, create_read, write_read, truncate_read, link_read, unlink_read, rename_read, chmod_read, regroup_read, tagged_read, entry_read}
use Rattle.kfs_model.proofs.Fields.{some_from, Stands, IsField, both, made_again, byte_field, byte_is, number32_field, number64_field, mode_field, mode_in_range, group_field, name_field, payload_field, kind_field, tagged_takes}

module _ (version : ℕ) where
  chosen_takes : (bytes after : List ℕ) (tag : ℕ) (x : Entry × List ℕ) → bytes ≡ tag ∷ after → IsBytes after → tagged_read version tag after ≡ Some x → Stands (IsEntry version) entry_bytes bytes x.0 x.1
  chosen_takes bytes after tag x front fits e =
      elim (byte_is tag 1 (create_read version after) _ x e) [
        | inl p ↦ tagged_takes 1 create_of (both (both (both (both number32_field name_field) number32_field) kind_field) (mode_field version))
            (λ v. refl) (λ v h. (h.0.0.0.0, h.0.0.0.1, h.0.0.1, h.1)) bytes after tag x front fits p.0 p.1
        | inr q ↦ elim (byte_is tag 2 (write_read after) _ x q.1) [
          | inl p ↦ tagged_takes 2 write_of (both (both number32_field number64_field) payload_field)
              (λ v. refl) (λ v h. (h.0.0, h.0.1, h.1)) bytes after tag x front fits p.0 p.1
          | inr q ↦ elim (byte_is tag 3 (truncate_read after) _ x q.1) [
            | inl p ↦ tagged_takes 3 truncate_of (both number32_field number64_field)
                (λ v. refl) (λ v h. (h.0, h.1)) bytes after tag x front fits p.0 p.1
            | inr q ↦ elim (byte_is tag 4 (link_read after) _ x q.1) [
              | inl p ↦ tagged_takes 4 link_of (both (both number32_field number32_field) name_field)
                  (λ v. refl) (λ v h. (h.0.0, h.0.1, h.1)) bytes after tag x front fits p.0 p.1
              | inr q ↦ elim (byte_is tag 5 (unlink_read after) _ x q.1) [
                | inl p ↦ tagged_takes 5 unlink_of (both (both number32_field name_field) kind_field)
                    (λ v. refl) (λ v h. (h.0.0, h.0.1)) bytes after tag x front fits p.0 p.1
                | inr q ↦ elim (byte_is tag 6 (rename_read after) _ x q.1) [
                  | inl p ↦ tagged_takes 6 rename_of (both (both (both number32_field name_field) number32_field) name_field)
                      (λ v. refl) (λ v h. (h.0.0.0, h.0.0.1, h.0.1, h.1)) bytes after tag x front fits p.0 p.1
                  | inr q ↦ elim (byte_is tag 7 (chmod_read version after) _ x q.1) [
                    | inl p ↦ tagged_takes 7 chmod_of (both number32_field (mode_field version))
                        (λ v. refl) (λ v h. (h.0, h.1)) bytes after tag x front fits p.0 p.1
                    | inr q ↦ elim (byte_is tag 8 (regroup_read version after) None x q.1) [
                      | inl p ↦ tagged_takes 8 regroup_of (both number32_field (group_field version))
                          (λ v. refl) (λ v h. (h.0, h.1)) bytes after tag x front fits p.0 p.1
                      | inr q ↦ let never : None ≡ Some x = q.1 in absurd cc
                    ]
                  ]
                ]
              ]
            ]
          ]
        ]
      ]

  entry_takes : (bytes : List ℕ) (x : Entry × List ℕ) → IsBytes bytes → entry_read version bytes ≡ Some x → Stands (IsEntry version) entry_bytes bytes x.0 x.1
  unfolding entry_read
  entry_takes bytes x fits e =
      let a = some_from (byte_read bytes) (λ tag. tagged_read version tag.0 tag.1) x e in
      let m = byte_field.takes bytes a.0 fits a.1 in
      chosen_takes bytes a.0.1 a.0.0 x m.parts m.rest_bytes a.2

  entry_again : (e : Entry) (rest : List ℕ) → IsEntry version e → entry_read version (entry_bytes e ++ rest) ≡ Some (e, rest)
  unfolding entry_read byte_read
  entry_again (Create d m n k mode) rest h =
      made_again create_of (both (both (both (both number32_field name_field) number32_field) kind_field) (mode_field version))
      ((((d, m), n), k), mode) rest ((((h.0, h.1), h.2), tt), h.3)
  entry_again (Write n offset p) rest h =
      made_again write_of (both (both number32_field number64_field) payload_field) ((n, offset), p) rest ((h.0, h.1), h.2)
  entry_again (Truncate n size) rest h =
      made_again truncate_of (both number32_field number64_field) (n, size) rest (h.0, h.1)
  entry_again (Link n d m) rest h =
      made_again link_of (both (both number32_field number32_field) name_field) ((n, d), m) rest ((h.0, h.1), h.2)
  entry_again (Unlink d m k) rest h =
      made_again unlink_of (both (both number32_field name_field) kind_field) ((d, m), k) rest ((h.0, h.1), tt)
  entry_again (Rename d m e k) rest h =
      made_again rename_of (both (both (both number32_field name_field) number32_field) name_field) (((d, m), e), k) rest (((h.0, h.1), h.2), h.3)
  entry_again (Chmod n mode) rest h =
      made_again chmod_of (both number32_field (mode_field version)) (n, mode) rest (h.0, h.1)
  entry_again (Regroup n group) rest h =
      made_again regroup_of (both number32_field (group_field version)) (n, group) rest (h.0, h.1)

  pub entry_field : IsField (IsEntry version) entry_bytes (entry_read version)
  entry_field = record { takes = entry_takes; again = entry_again }

-- an entry of a log of any version is one of the latest
pub is_of_latest : (version : ℕ) (e : Entry) → IsEntry version e → IsEntry latest_version e
is_of_latest version (Create d m n k mode) h = (h.0, h.1, h.2, mode_in_range version mode h.3)
is_of_latest version (Write n offset p) h = h
is_of_latest version (Truncate n size) h = h
is_of_latest version (Link n d m) h = h
is_of_latest version (Unlink d m k) h = h
is_of_latest version (Rename d m e k) h = h
is_of_latest version (Chmod n mode) h = (h.0, mode_in_range version mode h.1)
is_of_latest version (Regroup n group) h = (h.0, (leb-true 2 latest_version refl, h.1.1))
