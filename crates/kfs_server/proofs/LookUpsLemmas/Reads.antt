-- A look-up is read exactly where it stands.
use Rattle.std.proofs.Common.{◌≡◌, ℕ, ◌<◌, List, [], ◌∷◌, ◌++◌, length, Option, Some, None, refl, sym, ap, subst, ◌∙◌, append_assoc, append-nil, inl, inr, option_map, arith}
use Rattle.std.specs.Prelude.{IfSome, IsNone}
use Rattle.kfs_model.specs.Steps.{◌>>=◌}
use Rattle.kfs_model.specs.Spelling.{IsBytes, IsName, is_name, number32, number64}
use Rattle.kfs_model.proofs.Reading.{byte_read, number32_read, number64_read}
use Rattle.kfs_model.proofs.Fields.{byte_is, byte_field, number32_field, number64_field, some_from, some_if, some_is}
use Rattle.kfs_model.proofs.NameTest.{is_name_true, is_name_sound}
use Rattle.kfs_server.specs.LookUps.LookUp.{LookUp, Node, State, Checkpoint, Find, Names, Read, Places, Leases, Plan, IsAfterName, IsLookUp, IsNoLookUp, after_bytes, look_up_bytes}
use Rattle.kfs_server.specs.LookUps.Reading.{after_read, at_end, ended, find_read, leases_read, look_up_read, name_of, names_read, node_read, plan_read, read_read, tagged_read}

-- the bytes are this look-up's
record IsThis (bytes : List ℕ) (look_up : LookUp) : Type 0 where
  is : bytes ≡ look_up_bytes look_up
  fits : IsLookUp look_up

abbrev some_look_up : LookUp → Option LookUp
some_look_up look_up = Some look_up

-- nothing stands behind it
end_takes : (bytes : List ℕ) (one x : LookUp) → ended bytes one ≡ Some x → (bytes ≡ []) × (one ≡ x)
end_takes [] one x e = (refl, some_is one x e)
end_takes (b ∷ bytes) one x e = let never : None ≡ some_look_up x = e in absurd cc

-- or something does
pub more_behind : (bytes : List ℕ) → 0 < length bytes → None ≡ at_end bytes
more_behind [] more = absurd (omega (arith, more))
more_behind (b ∷ bytes) more = refl

-- a look-up of a tag alone
alone : (tag : ℕ) (bytes rest : List ℕ) (one x : LookUp) → bytes ≡ tag ∷ rest → look_up_bytes one ≡ tag ∷ [] → IsLookUp one → ended rest one ≡ Some x → IsThis bytes x
alone tag bytes rest one x parts spelled fits e =
    let last = end_takes rest one x e in
    subst (λ (l : LookUp). IsThis bytes l) last.1 (record { is = parts ∙ ap (λ (bs : List ℕ). tag ∷ bs) last.0 ∙ sym spelled; fits = fits })

node_takes : (bytes rest : List ℕ) (x : LookUp) → bytes ≡ 64 ∷ rest → IsBytes rest → node_read rest ≡ Some x → IsThis bytes x
node_takes bytes rest x parts are e =
    let a = some_from (number32_read rest) (λ f. ended f.1 (Node f.0)) x e in
    let m = number32_field.takes rest a.0 are a.1 in
    let last = end_takes a.0.1 (Node a.0.0) x a.2 in
    subst (λ (l : LookUp). IsThis bytes l) last.1
    (record { is = parts ∙ ap (λ (bs : List ℕ). 64 ∷ bs) (m.parts ∙ ap (λ (bs : List ℕ). number32 a.0.0 ++ bs) last.0 ∙ append-nil (number32 a.0.0)); fits = m.fits })

name_takes : (bytes x : List ℕ) → name_of bytes ≡ Some x → (bytes ≡ x) × IsName x
name_takes bytes x e =
    let named = some_if (is_name bytes) (Some bytes) x e in
    let same : bytes ≡ x = some_is bytes x named.1 in
    (same, subst (λ (bs : List ℕ). IsName bs) same (is_name_sound bytes named.0))

find_takes : (bytes rest : List ℕ) (x : LookUp) → bytes ≡ 67 ∷ rest → IsBytes rest → find_read rest ≡ Some x → IsThis bytes x
find_takes bytes rest x parts are e =
    let a = some_from (number32_read rest) (λ f. name_of f.1 >>= λ name. Some (Find f.0 name)) x e in
    let m = number32_field.takes rest a.0 are a.1 in
    let b = some_from (name_of a.0.1) (λ name. Some (Find a.0.0 name)) x a.2 in
    let named = name_takes a.0.1 b.0 b.1 in
    subst (λ (l : LookUp). IsThis bytes l) (some_is (Find a.0.0 b.0) x b.2)
    (record { is = parts ∙ ap (λ (bs : List ℕ). 67 ∷ bs) (m.parts ∙ ap (λ (bs : List ℕ). number32 a.0.0 ++ bs) named.0); fits = (m.fits, named.1) })

after_takes : (bytes : List ℕ) (x : Option (List ℕ)) → after_read bytes ≡ Some x → (bytes ≡ after_bytes x) × IsAfterName x
after_takes [] x e =
    let none : Option (List ℕ) = None in
    let is : none ≡ x = some_is none x e in
    subst (λ (after : Option (List ℕ)). ([] ≡ after_bytes after) × IsAfterName after) is (refl, tt)
after_takes (b ∷ bytes) x e =
    let named = some_if (is_name (b ∷ bytes)) (Some (Some (b ∷ bytes))) x e in
    let one : Option (List ℕ) = Some (b ∷ bytes) in
    let is : one ≡ x = some_is one x named.1 in
    subst (λ (after : Option (List ℕ)). (b ∷ bytes ≡ after_bytes after) × IsAfterName after) is (refl, is_name_sound (b ∷ bytes) named.0)

names_takes : (bytes rest : List ℕ) (x : LookUp) → bytes ≡ 68 ∷ rest → IsBytes rest → names_read rest ≡ Some x → IsThis bytes x
names_takes bytes rest x parts are e =
    let a = some_from (number32_read rest) (λ f. number32_read f.1 >>= λ g. after_read g.1 >>= λ after. Some (Names f.0 g.0 after)) x e in
    let m = number32_field.takes rest a.0 are a.1 in
    let b = some_from (number32_read a.0.1) (λ g. after_read g.1 >>= λ after. Some (Names a.0.0 g.0 after)) x a.2 in
    let n = number32_field.takes a.0.1 b.0 m.rest_bytes b.1 in
    let c = some_from (after_read b.0.1) (λ after. Some (Names a.0.0 b.0.0 after)) x b.2 in
    let behind = after_takes b.0.1 c.0 c.1 in
    subst (λ (l : LookUp). IsThis bytes l) (some_is (Names a.0.0 b.0.0 c.0) x c.2)
    (record {
      is = parts ∙ ap (λ (bs : List ℕ). 68 ∷ bs) (m.parts ∙ ap (λ (bs : List ℕ). number32 a.0.0 ++ bs) (n.parts ∙ ap (λ (bs : List ℕ). number32 b.0.0 ++ bs) behind.0) ∙ sym (append_assoc (number32 a.0.0) (number32 b.0.0) (after_bytes c.0)));
      fits = (m.fits, n.fits, behind.1);
    })

read_takes : (bytes rest : List ℕ) (x : LookUp) → bytes ≡ 69 ∷ rest → IsBytes rest → read_read rest ≡ Some x → IsThis bytes x
read_takes bytes rest x parts are e =
    let a = some_from (number32_read rest) (λ f. number64_read f.1 >>= λ g. number32_read g.1 >>= λ h. ended h.1 (Read f.0 g.0 h.0)) x e in
    let m = number32_field.takes rest a.0 are a.1 in
    let b = some_from (number64_read a.0.1) (λ g. number32_read g.1 >>= λ h. ended h.1 (Read a.0.0 g.0 h.0)) x a.2 in
    let n = number64_field.takes a.0.1 b.0 m.rest_bytes b.1 in
    let c = some_from (number32_read b.0.1) (λ h. ended h.1 (Read a.0.0 b.0.0 h.0)) x b.2 in
    let o = number32_field.takes b.0.1 c.0 n.rest_bytes c.1 in
    let last = end_takes c.0.1 (Read a.0.0 b.0.0 c.0.0) x c.2 in
    let behind : b.0.1 ≡ number32 c.0.0 = o.parts ∙ ap (λ (bs : List ℕ). number32 c.0.0 ++ bs) last.0 ∙ append-nil (number32 c.0.0) in
    subst (λ (l : LookUp). IsThis bytes l) last.1
    (record {
      is = parts ∙ ap (λ (bs : List ℕ). 69 ∷ bs) (m.parts ∙ ap (λ (bs : List ℕ). number32 a.0.0 ++ bs) (n.parts ∙ ap (λ (bs : List ℕ). number64 b.0.0 ++ bs) behind) ∙ sym (append_assoc (number32 a.0.0) (number64 b.0.0) (number32 c.0.0)));
      fits = (m.fits, n.fits, o.fits);
    })

leases_takes : (bytes rest : List ℕ) (x : LookUp) → bytes ≡ 71 ∷ rest → IsBytes rest → leases_read rest ≡ Some x → IsThis bytes x
leases_takes bytes rest x parts are e =
    let a = some_from (number32_read rest) (λ f. number32_read f.1 >>= λ g. ended g.1 (Leases f.0 g.0)) x e in
    let m = number32_field.takes rest a.0 are a.1 in
    let b = some_from (number32_read a.0.1) (λ g. ended g.1 (Leases a.0.0 g.0)) x a.2 in
    let n = number32_field.takes a.0.1 b.0 m.rest_bytes b.1 in
    let last = end_takes b.0.1 (Leases a.0.0 b.0.0) x b.2 in
    let behind : a.0.1 ≡ number32 b.0.0 = n.parts ∙ ap (λ (bs : List ℕ). number32 b.0.0 ++ bs) last.0 ∙ append-nil (number32 b.0.0) in
    subst (λ (l : LookUp). IsThis bytes l) last.1
    (record { is = parts ∙ ap (λ (bs : List ℕ). 71 ∷ bs) (m.parts ∙ ap (λ (bs : List ℕ). number32 a.0.0 ++ bs) behind); fits = (m.fits, n.fits) })

plan_takes : (bytes rest : List ℕ) (x : LookUp) → bytes ≡ 72 ∷ rest → plan_read rest ≡ Some x → IsThis bytes x
plan_takes bytes rest x parts e = subst (λ (l : LookUp). IsThis bytes l) (some_is (Plan rest) x e) (record { is = parts; fits = tt })

-- what is read is there
sound : (bytes : List ℕ) (x : LookUp) → IsBytes bytes → look_up_read bytes ≡ Some x → IsThis bytes x
sound bytes x are e =
    let a = some_from (byte_read bytes) (λ tag. tagged_read tag.0 tag.1) x e in
    let m = byte_field.takes bytes a.0 are a.1 in
    let rest : List ℕ = a.0.1 in
    let front : (tag : ℕ) → a.0.0 ≡ tag → bytes ≡ tag ∷ rest = λ tag is. m.parts ∙ ap (λ (b : ℕ). b ∷ rest) is in
    elim (byte_is a.0.0 64 (node_read rest) _ x a.2) [
      | inl p ↦ node_takes bytes rest x (front 64 p.0) m.rest_bytes p.1
      | inr q ↦ elim (byte_is a.0.0 65 (ended rest State) _ x q.1) [
        | inl p ↦ alone 65 bytes rest State x (front 65 p.0) refl tt p.1
        | inr q ↦ elim (byte_is a.0.0 66 (ended rest Checkpoint) _ x q.1) [
          | inl p ↦ alone 66 bytes rest Checkpoint x (front 66 p.0) refl tt p.1
          | inr q ↦ elim (byte_is a.0.0 67 (find_read rest) _ x q.1) [
            | inl p ↦ find_takes bytes rest x (front 67 p.0) m.rest_bytes p.1
            | inr q ↦ elim (byte_is a.0.0 68 (names_read rest) _ x q.1) [
              | inl p ↦ names_takes bytes rest x (front 68 p.0) m.rest_bytes p.1
              | inr q ↦ elim (byte_is a.0.0 69 (read_read rest) _ x q.1) [
                | inl p ↦ read_takes bytes rest x (front 69 p.0) m.rest_bytes p.1
                | inr q ↦ elim (byte_is a.0.0 70 (ended rest Places) _ x q.1) [
                  | inl p ↦ alone 70 bytes rest Places x (front 70 p.0) refl tt p.1
                  | inr q ↦ elim (byte_is a.0.0 71 (leases_read rest) _ x q.1) [
                    | inl p ↦ leases_takes bytes rest x (front 71 p.0) m.rest_bytes p.1
                    | inr q ↦ elim (byte_is a.0.0 72 (plan_read rest) None x q.1) [
                      | inl p ↦ plan_takes bytes rest x (front 72 p.0) p.1
                      | inr q ↦ let never : None ≡ some_look_up x = q.1 in absurd cc
                    ]
                  ]
                ]
              ]
            ]
          ]
        ]
      ]
    ]

after_again : (after : Option (List ℕ)) → IsAfterName after → after_read (after_bytes after) ≡ Some after
after_again None is = refl
after_again (Some []) is = absurd (omega (arith, is.some))
after_again (Some (b ∷ bytes)) is = rw (is_name_true (b ∷ bytes) is) refl

-- what is there is read
complete : (l : LookUp) → IsLookUp l → look_up_read (look_up_bytes l) ≡ Some l
unfolding byte_read
complete (Node number) fits =
    ap (λ (bs : List ℕ). node_read bs) (sym (append-nil (number32 number))) ∙ ap (λ o. o >>= λ f. ended f.1 (Node f.0)) (number32_field.again number [] fits)
complete State fits = refl
complete Checkpoint fits = refl
complete (Find directory name) fits =
    ap (λ o. o >>= λ f. name_of f.1 >>= λ it. Some (Find f.0 it)) (number32_field.again directory name fits.0) ∙ rw (is_name_true name fits.1) refl
complete (Names directory limit after) fits =
    ap (λ (bs : List ℕ). names_read bs) (append_assoc (number32 directory) (number32 limit) (after_bytes after))
    ∙ ap (λ o. o >>= λ f. number32_read f.1 >>= λ g. after_read g.1 >>= λ it. Some (Names f.0 g.0 it)) (number32_field.again directory (number32 limit ++ after_bytes after) fits.0)
    ∙ ap (λ o. o >>= λ g. after_read g.1 >>= λ it. Some (Names directory g.0 it)) (number32_field.again limit (after_bytes after) fits.1)
    ∙ ap (λ o. o >>= λ it. Some (Names directory limit it)) (after_again after fits.2)
complete (Read file start count) fits =
    ap (λ (bs : List ℕ). read_read bs) (append_assoc (number32 file) (number64 start) (number32 count))
    ∙ ap (λ o. o >>= λ f. number64_read f.1 >>= λ g. number32_read g.1 >>= λ h. ended h.1 (Read f.0 g.0 h.0)) (number32_field.again file (number64 start ++ number32 count) fits.0)
    ∙ ap (λ o. o >>= λ g. number32_read g.1 >>= λ h. ended h.1 (Read file g.0 h.0)) (number64_field.again start (number32 count) fits.1)
    ∙ ap (λ (bs : List ℕ). number32_read bs >>= λ h. ended h.1 (Read file start h.0)) (sym (append-nil (number32 count)))
    ∙ ap (λ o. o >>= λ h. ended h.1 (Read file start h.0)) (number32_field.again count [] fits.2)
complete Places fits = refl
complete (Leases first limit) fits =
    ap (λ o. o >>= λ f. number32_read f.1 >>= λ g. ended g.1 (Leases f.0 g.0)) (number32_field.again first (number32 limit) fits.0)
    ∙ ap (λ (bs : List ℕ). number32_read bs >>= λ g. ended g.1 (Leases first g.0)) (sym (append-nil (number32 limit)))
    ∙ ap (λ o. o >>= λ g. ended g.1 (Leases first g.0)) (number32_field.again limit [] fits.1)
complete (Plan log) fits = refl

-- the code's answer, shown by any view of it
pub is_read : {V : Type 0} (view : V → LookUp) (bytes : List ℕ) (found : Option V) → IsBytes bytes → option_map view found ≡ look_up_read bytes
    → IfSome found (λ v. (bytes ≡ look_up_bytes (view v)) × IsLookUp (view v))
is_read view bytes None are is = tt
is_read view bytes (Some v) are is = let this = sound bytes (view v) are (sym is) in (this.is, this.fits)

pub is_none : {V : Type 0} (view : V → LookUp) (bytes : List ℕ) (found : Option V) → option_map view found ≡ look_up_read bytes → IsNone found → IsNoLookUp bytes
is_none view bytes None is none = λ l fits same. let both : None ≡ some_look_up l = is ∙ ap look_up_read same ∙ complete l fits in absurd cc
is_none view bytes (Some v) is none = absurd cc
