-- The laws of calls: what is read is a call that stands there, and what is written is read.
use Rattle.std.proofs.Common.{◌≡◌, ℕ, ◌^◌, ◌<◌, cond, eqb, List, [], ◌∷◌, ◌++◌, length, map, Option, Some, None, refl, sym, ap, subst, ◌∙◌, append_assoc, arith, inl, inr}
use Rattle.std.specs.List.{AllByRecursion}
use Rattle.kfs_model.specs.Lease.{LeaseKind, ReadLease, WriteLease}
use Rattle.kfs_model.specs.Migration.{Move}
use Rattle.kfs_model.specs.Steps.{◌>>=◌}
use Rattle.kfs_model.specs.Spelling.{IsBytes, byte, number16, number32, number64}
use Rattle.kfs_model.proofs.Reading.{byte_read, number16_read, number32_read, bytes_read}
use Rattle.kfs_model.proofs.Fields.{some_from, some_is, Stands, IsField, both, byte_field, byte_is, number16_field, number32_field, number64_field, record_field, run_takes, run_again}
use Rattle.kfs_call.specs.Call.{Call, Submit, Lease, Drop, Tick, Migrate, LeaseAt, lease_kind_bytes, long_bytes, IsLong, short_bytes, IsShort, move_bytes, IsMove, call_fields, IsCall}
use Rattle.kfs_call.specs.declared.codec.tag.Tag.{Tag}
use Rattle.kfs_call.specs.declared.codec.tag.Tag.TheVariants as tags
use Rattle.kfs_call.proofs.Layouts.{IsLayout, end_layout, step_layout, made_layout, rows_layout}
use Rattle.kfs_call.specs.Readers.{end, tag_read, lease_kind_read, long_read, short_read, move_read, submit_read, lease_read, drop_read, tick_read, migrate_read, lease_at_read, tail_read, call_read}

abbrev pub any_value : {V : Type 0} → V → Type 0
any_value _ = Unit {0}

-- ---- tags

abbrev pub tag_bytes : Tag → List ℕ
tag_bytes tags.Submit = byte 1
tag_bytes tags.Lease = byte 2
tag_bytes tags.Drop = byte 3
tag_bytes tags.Tick = byte 4
tag_bytes tags.Migrate = byte 5
tag_bytes tags.LeaseAt = byte 6

abbrev done : {V : Type 0} → V → Option V
done x = Some x

tag_takes : (bytes : List ℕ) (x : Tag × List ℕ) → IsBytes bytes → tag_read bytes ≡ Some x → Stands any_value tag_bytes bytes x.0 x.1
unfolding tag_read
tag_takes bytes x fits e =
    let a = some_from (byte_read bytes) (λ b. cond (eqb b.0 1) (Some (tags.Submit, b.1)) (cond (eqb b.0 2) (Some (tags.Lease, b.1)) (cond (eqb b.0 3) (Some (tags.Drop, b.1)) (cond (eqb b.0 4) (Some (tags.Tick, b.1)) (cond (eqb b.0 5) (Some (tags.Migrate, b.1)) (cond (eqb b.0 6) (Some (tags.LeaseAt, b.1)) None)))))) x e in
    let m = byte_field.takes bytes a.0 fits a.1 in
    let stands : (t : Tag) → a.0.0 ∷ a.0.1 ≡ tag_bytes t ++ a.0.1 → done (t, a.0.1) ≡ Some x → Stands any_value tag_bytes bytes x.0 x.1 =
    λ t front is. subst (λ (y : Tag × List ℕ). Stands any_value tag_bytes bytes y.0 y.1) (some_is (t, a.0.1) x is) (record { parts = m.parts ∙ front; fits = tt; rest_bytes = m.rest_bytes }) in
    elim (byte_is a.0.0 1 (Some (tags.Submit, a.0.1)) _ x a.2) [
      | inl p ↦ stands tags.Submit (ap (λ (b : ℕ). b ∷ a.0.1) p.0) p.1
      | inr q ↦ elim (byte_is a.0.0 2 (Some (tags.Lease, a.0.1)) _ x q.1) [
        | inl p ↦ stands tags.Lease (ap (λ (b : ℕ). b ∷ a.0.1) p.0) p.1
        | inr q ↦ elim (byte_is a.0.0 3 (Some (tags.Drop, a.0.1)) _ x q.1) [
          | inl p ↦ stands tags.Drop (ap (λ (b : ℕ). b ∷ a.0.1) p.0) p.1
          | inr q ↦ elim (byte_is a.0.0 4 (Some (tags.Tick, a.0.1)) _ x q.1) [
            | inl p ↦ stands tags.Tick (ap (λ (b : ℕ). b ∷ a.0.1) p.0) p.1
            | inr q ↦ elim (byte_is a.0.0 5 (Some (tags.Migrate, a.0.1)) _ x q.1) [
              | inl p ↦ stands tags.Migrate (ap (λ (b : ℕ). b ∷ a.0.1) p.0) p.1
              | inr q ↦ elim (byte_is a.0.0 6 (Some (tags.LeaseAt, a.0.1)) None x q.1) [
                | inl p ↦ stands tags.LeaseAt (ap (λ (b : ℕ). b ∷ a.0.1) p.0) p.1
                | inr q ↦ let never : None ≡ done x = q.1 in absurd cc
              ]
            ]
          ]
        ]
      ]
    ]

tag_again : (t : Tag) (rest : List ℕ) → any_value t → tag_read (tag_bytes t ++ rest) ≡ Some (t, rest)
unfolding tag_read byte_read
tag_again tags.Submit rest fits = refl
tag_again tags.Lease rest fits = refl
tag_again tags.Drop rest fits = refl
tag_again tags.Tick rest fits = refl
tag_again tags.Migrate rest fits = refl
tag_again tags.LeaseAt rest fits = refl

tag_field : IsField any_value tag_bytes tag_read
tag_field = record { takes = tag_takes; again = tag_again }

-- ---- kinds of leases

kind_takes : (bytes : List ℕ) (x : LeaseKind × List ℕ) → IsBytes bytes → lease_kind_read bytes ≡ Some x → Stands any_value lease_kind_bytes bytes x.0 x.1
unfolding lease_kind_read
kind_takes bytes x fits e =
    let a = some_from (byte_read bytes) (λ b. cond (eqb b.0 0) (Some (ReadLease, b.1)) (cond (eqb b.0 1) (Some (WriteLease, b.1)) None)) x e in
    let m = byte_field.takes bytes a.0 fits a.1 in
    let stands : (k : LeaseKind) → a.0.0 ∷ a.0.1 ≡ lease_kind_bytes k ++ a.0.1 → done (k, a.0.1) ≡ Some x → Stands any_value lease_kind_bytes bytes x.0 x.1 =
    λ k front is. subst (λ (y : LeaseKind × List ℕ). Stands any_value lease_kind_bytes bytes y.0 y.1) (some_is (k, a.0.1) x is) (record { parts = m.parts ∙ front; fits = tt; rest_bytes = m.rest_bytes }) in
    elim (byte_is a.0.0 0 (Some (ReadLease, a.0.1)) _ x a.2) [
      | inl p ↦ stands ReadLease (ap (λ (b : ℕ). b ∷ a.0.1) p.0) p.1
      | inr q ↦ elim (byte_is a.0.0 1 (Some (WriteLease, a.0.1)) None x q.1) [
        | inl p ↦ stands WriteLease (ap (λ (b : ℕ). b ∷ a.0.1) p.0) p.1
        | inr q ↦ let never : None ≡ done x = q.1 in absurd cc
      ]
    ]

kind_again : (k : LeaseKind) (rest : List ℕ) → any_value k → lease_kind_read (lease_kind_bytes k ++ rest) ≡ Some (k, rest)
unfolding lease_kind_read byte_read
kind_again ReadLease rest fits = refl
kind_again WriteLease rest fits = refl

pub kind_field : IsField any_value lease_kind_bytes lease_kind_read
kind_field = record { takes = kind_takes; again = kind_again }

-- ---- bytes behind their count

-- the laws of bytes behind a count, whatever the count's field is
module _ (limit : ℕ) (spelling : ℕ → List ℕ) (read : List ℕ → Option (ℕ × List ℕ)) (count : IsField (λ n. n < limit) spelling read) where
  abbrev pub counted_bytes : List ℕ → List ℕ
  counted_bytes bytes = spelling (length bytes) ++ bytes

  abbrev pub counted_read : List ℕ → Option (List ℕ × List ℕ)
  counted_read bytes = read bytes >>= λ len. bytes_read len.0 len.1

  counted_takes : (bytes : List ℕ) (x : List ℕ × List ℕ) → IsBytes bytes → counted_read bytes ≡ Some x → Stands (λ b. length b < limit) counted_bytes bytes x.0 x.1
  counted_takes bytes x fits e =
      let a = some_from (read bytes) (λ len. bytes_read len.0 len.1) x e in
      let m = count.takes bytes a.0 fits a.1 in
      let n = run_takes a.0.0 a.0.1 x m.rest_bytes a.2 in
      let below : a.0.0 < limit = m.fits in
      record {
        parts = m.parts ∙ ap (λ (l : List ℕ). spelling a.0.0 ++ l) n.0 ∙ sym (append_assoc (spelling a.0.0) x.0 x.1) ∙ ap (λ (k : ℕ). spelling k ++ x.0 ++ x.1) (sym n.1);
        fits = omega (arith, n.1, below);
        rest_bytes = n.2;
      }

  counted_again : (value rest : List ℕ) → length value < limit → counted_read (counted_bytes value ++ rest) ≡ Some (value, rest)
  counted_again value rest fits =
      ap (λ (l : List ℕ). read l >>= λ len. bytes_read len.0 len.1) (append_assoc (spelling (length value)) value rest)
      ∙ rw (count.again (length value) (value ++ rest) fits) (run_again value rest)

  pub counted_field : IsField (λ b. length b < limit) counted_bytes counted_read
  counted_field = record { takes = counted_takes; again = counted_again }

pub long_field : IsField IsLong long_bytes long_read
unfolding long_read
long_field = counted_field (2 ^ 32) number32 number32_read number32_field

short_field : IsField IsShort short_bytes short_read
unfolding short_read
short_field = counted_field (2 ^ 16) number16 number16_read number16_field

-- ---- moves

move_field : IsField IsMove move_bytes move_read
unfolding move_read
move_field = record_field (λ f. record { number = f.0.0.0; block = f.0.0.1; target = record { tier = f.0.1; place = f.1 } }) (λ m. (((m.number, m.block), m.target.tier), m.target.place))
    (both (both (both number32_field number32_field) byte_field) number32_field)
    (λ m. refl) (λ v. refl) (λ m. refl) (λ m f. (f.0.0.0, f.0.0.1, f.0.1, f.1)) (λ m f. (((f.0, f.1), f.2), f.3))

abbrev some_move : Move
some_move = record { number = 0; block = 0; target = record { tier = 0; place = 0 } }

some_move_fits : IsMove some_move
some_move_fits = (omega arith, omega arith, omega arith, omega arith)

-- ---- calls

abbrev pub tag_of : Call → Tag
tag_of (Submit client log plan) = tags.Submit
tag_of (Lease client kind end path) = tags.Lease
tag_of (Drop client number) = tags.Drop
tag_of (Tick moment) = tags.Tick
tag_of (Migrate moves) = tags.Migrate
tag_of (LeaseAt client kind end number) = tags.LeaseAt

-- the fields behind the tag
abbrev pub tail_fields : Call → List (List ℕ)
tail_fields (Submit client log plan) = number32 client ∷ long_bytes log ∷ long_bytes plan ∷ []
tail_fields (Lease client kind end path) = number32 client ∷ lease_kind_bytes kind ∷ number64 end ∷ short_bytes path ∷ []
tail_fields (Drop client number) = number32 client ∷ number32 number ∷ []
tail_fields (Tick moment) = number64 moment ∷ []
tail_fields (Migrate moves) = number16 (length moves) ∷ map move_bytes moves
tail_fields (LeaseAt client kind end number) = number32 client ∷ lease_kind_bytes kind ∷ number64 end ∷ number32 number ∷ []

abbrev pub IsTagged : Tag → Call → Type 0
IsTagged tag call = IsCall call × (tag_of call ≡ tag)

zero32 : 0 < 2 ^ 32
zero32 = omega arith

zero64 : 0 < 2 ^ 64
zero64 = omega arith

zero16 : 0 < 2 ^ 16
zero16 = omega arith

none_long : IsLong []
none_long = omega arith

none_short : IsShort []
none_short = omega arith

submit_layout : IsLayout (IsTagged tags.Submit) tail_fields 1 submit_read
submit_layout =
    made_layout _ _ 1 _
    (step_layout _ _ _ _ _ _ 1 number32_field 0 zero32 (λ _ _. step_layout _ _ _ _ _ _ 2 long_field [] none_long (λ _ _. step_layout _ _ _ _ _ _ 3 long_field [] none_long (λ _ _. end_layout 4))))
    (λ v. Submit v.0 v.1.0 v.1.1.0) (IsTagged tags.Submit) tail_fields back (λ v f. ((f.0, f.1.0, f.1.1.0), refl)) (λ v f. refl)
  where
    back : (w : Call) → IsTagged tags.Submit w → (v : ℕ × (List ℕ × (List ℕ × Unit {0}))) × ((v.0 < 2 ^ 32) × (IsLong v.1.0 × (IsLong v.1.1.0 × Unit {0}))) × (Submit v.0 v.1.0 v.1.1.0 ≡ w)
    back (Submit client log plan) is = ((client, (log, (plan, tt))), (is.0.0, (is.0.1, (is.0.2, tt))), refl)
    back (Lease client kind end path) is = let no : tags.Lease ≡ tags.Submit = is.1 in absurd cc
    back (Drop client number) is = let no : tags.Drop ≡ tags.Submit = is.1 in absurd cc
    back (Tick moment) is = let no : tags.Tick ≡ tags.Submit = is.1 in absurd cc
    back (Migrate moves) is = let no : tags.Migrate ≡ tags.Submit = is.1 in absurd cc
    back (LeaseAt client kind end number) is = let no : tags.LeaseAt ≡ tags.Submit = is.1 in absurd cc

lease_layout : IsLayout (IsTagged tags.Lease) tail_fields 1 lease_read
lease_layout =
    made_layout _ _ 1 _
    (step_layout _ _ _ _ _ _ 1 number32_field 0 zero32 (λ _ _. step_layout _ _ _ _ _ _ 2 kind_field ReadLease tt
    (λ _ _. step_layout _ _ _ _ _ _ 3 number64_field 0 zero64 (λ _ _. step_layout _ _ _ _ _ _ 4 short_field [] none_short (λ _ _. end_layout 5)))))
    (λ v. Lease v.0 v.1.0 v.1.1.0 v.1.1.1.0) (IsTagged tags.Lease) tail_fields back (λ v f. ((f.0, f.1.1.0, f.1.1.1.0), refl)) (λ v f. refl)
  where
    back : (w : Call) → IsTagged tags.Lease w → (v : ℕ × (LeaseKind × (ℕ × (List ℕ × Unit {0})))) × ((v.0 < 2 ^ 32) × (Unit {0} × ((v.1.1.0 < 2 ^ 64) × (IsShort v.1.1.1.0 × Unit {0})))) × (Lease v.0 v.1.0 v.1.1.0 v.1.1.1.0 ≡ w)
    back (Submit client log plan) is = let no : tags.Submit ≡ tags.Lease = is.1 in absurd cc
    back (Lease client kind end path) is = ((client, (kind, (end, (path, tt)))), (is.0.0, (tt, (is.0.1, (is.0.2, tt)))), refl)
    back (Drop client number) is = let no : tags.Drop ≡ tags.Lease = is.1 in absurd cc
    back (Tick moment) is = let no : tags.Tick ≡ tags.Lease = is.1 in absurd cc
    back (Migrate moves) is = let no : tags.Migrate ≡ tags.Lease = is.1 in absurd cc
    back (LeaseAt client kind end number) is = let no : tags.LeaseAt ≡ tags.Lease = is.1 in absurd cc

drop_layout : IsLayout (IsTagged tags.Drop) tail_fields 1 drop_read
drop_layout =
    made_layout _ _ 1 _
    (step_layout _ _ _ _ _ _ 1 number32_field 0 zero32 (λ _ _. step_layout _ _ _ _ _ _ 2 number32_field 0 zero32 (λ _ _. end_layout 3)))
    (λ v. Drop v.0 v.1.0) (IsTagged tags.Drop) tail_fields back (λ v f. ((f.0, f.1.0), refl)) (λ v f. refl)
  where
    back : (w : Call) → IsTagged tags.Drop w → (v : ℕ × (ℕ × Unit {0})) × ((v.0 < 2 ^ 32) × ((v.1.0 < 2 ^ 32) × Unit {0})) × (Drop v.0 v.1.0 ≡ w)
    back (Submit client log plan) is = let no : tags.Submit ≡ tags.Drop = is.1 in absurd cc
    back (Lease client kind end path) is = let no : tags.Lease ≡ tags.Drop = is.1 in absurd cc
    back (Drop client number) is = ((client, (number, tt)), (is.0.0, (is.0.1, tt)), refl)
    back (Tick moment) is = let no : tags.Tick ≡ tags.Drop = is.1 in absurd cc
    back (Migrate moves) is = let no : tags.Migrate ≡ tags.Drop = is.1 in absurd cc
    back (LeaseAt client kind end number) is = let no : tags.LeaseAt ≡ tags.Drop = is.1 in absurd cc

tick_layout : IsLayout (IsTagged tags.Tick) tail_fields 1 tick_read
tick_layout =
    made_layout _ _ 1 _ (step_layout _ _ _ _ _ _ 1 number64_field 0 zero64 (λ _ _. end_layout 2))
    (λ v. Tick v.0) (IsTagged tags.Tick) tail_fields back (λ v f. (f.0, refl)) (λ v f. refl)
  where
    back : (w : Call) → IsTagged tags.Tick w → (v : ℕ × Unit {0}) × ((v.0 < 2 ^ 64) × Unit {0}) × (Tick v.0 ≡ w)
    back (Submit client log plan) is = let no : tags.Submit ≡ tags.Tick = is.1 in absurd cc
    back (Lease client kind end path) is = let no : tags.Lease ≡ tags.Tick = is.1 in absurd cc
    back (Drop client number) is = let no : tags.Drop ≡ tags.Tick = is.1 in absurd cc
    back (Tick moment) is = ((moment, tt), (is.0, tt), refl)
    back (Migrate moves) is = let no : tags.Migrate ≡ tags.Tick = is.1 in absurd cc
    back (LeaseAt client kind end number) is = let no : tags.LeaseAt ≡ tags.Tick = is.1 in absurd cc

migrate_layout : IsLayout (IsTagged tags.Migrate) tail_fields 1 migrate_read
migrate_layout =
    made_layout _ _ 1 _ (step_layout _ _ _ _ _ _ 1 number16_field 0 zero16 (λ count _. rows_layout IsMove move_bytes move_read move_field some_move some_move_fits count 2))
    (λ v. Migrate v.1) (IsTagged tags.Migrate) tail_fields back (λ v f. ((subst (λ (n : ℕ). n < 2 ^ 16) (sym f.1.0) f.0, f.1.1), refl))
    (λ v f. ap (λ (n : ℕ). number16 n ∷ map move_bytes v.1) f.1.0)
  where
    back : (w : Call) → IsTagged tags.Migrate w → (v : ℕ × List Move) × ((v.0 < 2 ^ 16) × ((length v.1 ≡ v.0) × AllByRecursion IsMove v.1)) × (Migrate v.1 ≡ w)
    back (Submit client log plan) is = let no : tags.Submit ≡ tags.Migrate = is.1 in absurd cc
    back (Lease client kind end path) is = let no : tags.Lease ≡ tags.Migrate = is.1 in absurd cc
    back (Drop client number) is = let no : tags.Drop ≡ tags.Migrate = is.1 in absurd cc
    back (Tick moment) is = let no : tags.Tick ≡ tags.Migrate = is.1 in absurd cc
    back (Migrate moves) is = ((length moves, moves), (is.0.0, (refl, is.0.1)), refl)
    back (LeaseAt client kind end number) is = let no : tags.LeaseAt ≡ tags.Migrate = is.1 in absurd cc

lease_at_layout : IsLayout (IsTagged tags.LeaseAt) tail_fields 1 lease_at_read
lease_at_layout =
    made_layout _ _ 1 _
    (step_layout _ _ _ _ _ _ 1 number32_field 0 zero32 (λ _ _. step_layout _ _ _ _ _ _ 2 kind_field ReadLease tt
    (λ _ _. step_layout _ _ _ _ _ _ 3 number64_field 0 zero64 (λ _ _. step_layout _ _ _ _ _ _ 4 number32_field 0 zero32 (λ _ _. end_layout 5)))))
    (λ v. LeaseAt v.0 v.1.0 v.1.1.0 v.1.1.1.0) (IsTagged tags.LeaseAt) tail_fields back (λ v f. ((f.0, f.1.1.0, f.1.1.1.0), refl)) (λ v f. refl)
  where
    back : (w : Call) → IsTagged tags.LeaseAt w → (v : ℕ × (LeaseKind × (ℕ × (ℕ × Unit {0})))) × ((v.0 < 2 ^ 32) × (Unit {0} × ((v.1.1.0 < 2 ^ 64) × ((v.1.1.1.0 < 2 ^ 32) × Unit {0})))) × (LeaseAt v.0 v.1.0 v.1.1.0 v.1.1.1.0 ≡ w)
    back (Submit client log plan) is = let no : tags.Submit ≡ tags.LeaseAt = is.1 in absurd cc
    back (Lease client kind end path) is = let no : tags.Lease ≡ tags.LeaseAt = is.1 in absurd cc
    back (Drop client number) is = let no : tags.Drop ≡ tags.LeaseAt = is.1 in absurd cc
    back (Tick moment) is = let no : tags.Tick ≡ tags.LeaseAt = is.1 in absurd cc
    back (Migrate moves) is = let no : tags.Migrate ≡ tags.LeaseAt = is.1 in absurd cc
    back (LeaseAt client kind end number) is = ((client, (kind, (end, (number, tt)))), (is.0.0, (tt, (is.0.1, (is.0.2, tt)))), refl)

tail_layout : (tag : Tag) → any_value tag → IsLayout (IsTagged tag) tail_fields 1 (tail_read tag)
tail_layout tags.Submit _ = submit_layout
tail_layout tags.Lease _ = lease_layout
tail_layout tags.Drop _ = drop_layout
tail_layout tags.Tick _ = tick_layout
tail_layout tags.Migrate _ = migrate_layout
tail_layout tags.LeaseAt _ = lease_at_layout

-- all fields of a call: those behind its tag, and the tag
fields_are : (call : Call) → call_fields call ≡ tag_bytes (tag_of call) ∷ tail_fields call
fields_are (Submit client log plan) = refl
fields_are (Lease client kind end path) = refl
fields_are (Drop client number) = refl
fields_are (Tick moment) = refl
fields_are (Migrate moves) = refl
fields_are (LeaseAt client kind end number) = refl

pub call_layout : IsLayout IsCall call_fields 0 call_read
unfolding call_read
call_layout =
    made_layout _ _ 0 _ (step_layout any_value tag_bytes tag_read IsTagged (λ _. tail_fields) tail_read 0 tag_field tags.Tick tt tail_layout)
    (λ v. v.1) IsCall call_fields (λ w is. ((tag_of w, w), (tt, (is, refl)), refl)) (λ v f. f.1.0)
    (λ v f. fields_are v.1 ∙ ap (λ (t : Tag). tag_bytes t ∷ tail_fields v.1) f.1.1)
