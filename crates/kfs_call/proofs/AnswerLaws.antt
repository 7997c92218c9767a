-- The laws of answers: what is read is an answer that stands there, and what is written is read.
use Rattle.std.proofs.Common.{◌≡◌, ℕ, ◌^◌, ◌<◌, Bool, true, false, cond, eqb, List, [], ◌∷◌, ◌++◌, Option, Some, None, refl, ap, subst, ◌∙◌, arith, inl, inr}
use Rattle.kfs_model.specs.Spelling.{IsBytes, byte, number32, number64}
use Rattle.kfs_model.proofs.Reading.{byte_read}
use Rattle.kfs_model.proofs.Fields.{some_from, some_is, Stands, IsField, both, byte_field, byte_is, number32_field, number64_field, record_field}
use Rattle.kfs_call.specs.AnswerRow.{FaultRow, Told, Yes, No, NoRoom, Leased, Dropped, Moved, Ticked, LeaseRefused, MovesRefused, flag_bytes, fault_bytes, IsFaultRow, told_fields, IsTold, answer_fields, IsAnswerRow}
use Rattle.kfs_call.specs.declared.codec.answer_tag.AnswerTag.{AnswerTag}
use Rattle.kfs_call.specs.declared.codec.answer_tag.AnswerTag.TheVariants as tags
use Rattle.kfs_call.specs.AnswerReaders.{answer_tag_read, flag_read, fault_read, yes_read, no_read, no_room_read, leased_read, dropped_read, ticked_read, moved_read, lease_refused_read, moves_refused_read, told_read, answer_read}
use Rattle.kfs_call.proofs.Layouts.{IsLayout, end_layout, step_layout, made_layout}
use Rattle.kfs_call.proofs.CallLaws.{any_value}

abbrev done : {V : Type 0} → V → Option V
done x = Some x

-- ---- tags

abbrev pub answer_tag_bytes : AnswerTag → List ℕ
answer_tag_bytes tags.Yes = byte 1
answer_tag_bytes tags.No = byte 2
answer_tag_bytes tags.NoRoom = byte 3
answer_tag_bytes tags.Leased = byte 4
answer_tag_bytes tags.Dropped = byte 5
answer_tag_bytes tags.Ticked = byte 6
answer_tag_bytes tags.Moved = byte 7
answer_tag_bytes tags.LeaseRefused = byte 8
answer_tag_bytes tags.MovesRefused = byte 9

tag_takes : (bytes : List ℕ) (x : AnswerTag × List ℕ) → IsBytes bytes → answer_tag_read bytes ≡ Some x → Stands any_value answer_tag_bytes bytes x.0 x.1
unfolding answer_tag_read
tag_takes bytes x fits e =
    let a = some_from (byte_read bytes) (λ b. cond (eqb b.0 1) (Some (tags.Yes, b.1)) (cond (eqb b.0 2) (Some (tags.No, b.1)) (cond (eqb b.0 3) (Some (tags.NoRoom, b.1)) (cond (eqb b.0 4) (Some (tags.Leased, b.1)) (cond (eqb b.0 5) (Some (tags.Dropped, b.1)) (cond (eqb b.0 6) (Some (tags.Ticked, b.1)) (cond (eqb b.0 7) (Some (tags.Moved, b.1)) (cond (eqb b.0 8) (Some (tags.LeaseRefused, b.1)) (cond (eqb b.0 9) (Some (tags.MovesRefused, b.1)) None))))))))) x e in
    let m = byte_field.takes bytes a.0 fits a.1 in
    let stands : (t : AnswerTag) → a.0.0 ∷ a.0.1 ≡ answer_tag_bytes t ++ a.0.1 → done (t, a.0.1) ≡ Some x → Stands any_value answer_tag_bytes bytes x.0 x.1 =
    λ t front is. subst (λ (y : AnswerTag × List ℕ). Stands any_value answer_tag_bytes bytes y.0 y.1) (some_is (t, a.0.1) x is) (record { parts = m.parts ∙ front; fits = tt; rest_bytes = m.rest_bytes }) in
    elim (byte_is a.0.0 1 (Some (tags.Yes, a.0.1)) _ x a.2) [
      | inl p ↦ stands tags.Yes (ap (λ (b : ℕ). b ∷ a.0.1) p.0) p.1
      | inr q ↦ elim (byte_is a.0.0 2 (Some (tags.No, a.0.1)) _ x q.1) [
        | inl p ↦ stands tags.No (ap (λ (b : ℕ). b ∷ a.0.1) p.0) p.1
        | inr q ↦ elim (byte_is a.0.0 3 (Some (tags.NoRoom, a.0.1)) _ x q.1) [
          | inl p ↦ stands tags.NoRoom (ap (λ (b : ℕ). b ∷ a.0.1) p.0) p.1
          | inr q ↦ elim (byte_is a.0.0 4 (Some (tags.Leased, a.0.1)) _ x q.1) [
            | inl p ↦ stands tags.Leased (ap (λ (b : ℕ). b ∷ a.0.1) p.0) p.1
            | inr q ↦ elim (byte_is a.0.0 5 (Some (tags.Dropped, a.0.1)) _ x q.1) [
              | inl p ↦ stands tags.Dropped (ap (λ (b : ℕ). b ∷ a.0.1) p.0) p.1
              | inr q ↦ elim (byte_is a.0.0 6 (Some (tags.Ticked, a.0.1)) _ x q.1) [
                | inl p ↦ stands tags.Ticked (ap (λ (b : ℕ). b ∷ a.0.1) p.0) p.1
                | inr q ↦ elim (byte_is a.0.0 7 (Some (tags.Moved, a.0.1)) _ x q.1) [
                  | inl p ↦ stands tags.Moved (ap (λ (b : ℕ). b ∷ a.0.1) p.0) p.1
                  | inr q ↦ elim (byte_is a.0.0 8 (Some (tags.LeaseRefused, a.0.1)) _ x q.1) [
                    | inl p ↦ stands tags.LeaseRefused (ap (λ (b : ℕ). b ∷ a.0.1) p.0) p.1
                    | inr q ↦ elim (byte_is a.0.0 9 (Some (tags.MovesRefused, a.0.1)) None x q.1) [
                      | inl p ↦ stands tags.MovesRefused (ap (λ (b : ℕ). b ∷ a.0.1) p.0) p.1
                      | inr q ↦ let never : None ≡ done x = q.1 in absurd cc
                    ]
                  ]
                ]
              ]
            ]
          ]
        ]
      ]
    ]

tag_again : (t : AnswerTag) (rest : List ℕ) → any_value t → answer_tag_read (answer_tag_bytes t ++ rest) ≡ Some (t, rest)
unfolding answer_tag_read byte_read
tag_again tags.Yes rest fits = refl
tag_again tags.No rest fits = refl
tag_again tags.NoRoom rest fits = refl
tag_again tags.Leased rest fits = refl
tag_again tags.Dropped rest fits = refl
tag_again tags.Ticked rest fits = refl
tag_again tags.Moved rest fits = refl
tag_again tags.LeaseRefused rest fits = refl
tag_again tags.MovesRefused rest fits = refl

tag_field : IsField any_value answer_tag_bytes answer_tag_read
tag_field = record { takes = tag_takes; again = tag_again }

-- ---- flags

flag_takes : (bytes : List ℕ) (x : Bool × List ℕ) → IsBytes bytes → flag_read bytes ≡ Some x → Stands any_value flag_bytes bytes x.0 x.1
unfolding flag_read
flag_takes bytes x fits e =
    let a = some_from (byte_read bytes) (λ b. cond (eqb b.0 0) (Some (false, b.1)) (cond (eqb b.0 1) (Some (true, b.1)) None)) x e in
    let m = byte_field.takes bytes a.0 fits a.1 in
    let stands : (k : Bool) → a.0.0 ∷ a.0.1 ≡ flag_bytes k ++ a.0.1 → done (k, a.0.1) ≡ Some x → Stands any_value flag_bytes bytes x.0 x.1 =
    λ k front is. subst (λ (y : Bool × List ℕ). Stands any_value flag_bytes bytes y.0 y.1) (some_is (k, a.0.1) x is) (record { parts = m.parts ∙ front; fits = tt; rest_bytes = m.rest_bytes }) in
    elim (byte_is a.0.0 0 (Some (false, a.0.1)) _ x a.2) [
      | inl p ↦ stands false (ap (λ (b : ℕ). b ∷ a.0.1) p.0) p.1
      | inr q ↦ elim (byte_is a.0.0 1 (Some (true, a.0.1)) None x q.1) [
        | inl p ↦ stands true (ap (λ (b : ℕ). b ∷ a.0.1) p.0) p.1
        | inr q ↦ let never : None ≡ done x = q.1 in absurd cc
      ]
    ]

flag_again : (k : Bool) (rest : List ℕ) → any_value k → flag_read (flag_bytes k ++ rest) ≡ Some (k, rest)
unfolding flag_read byte_read
flag_again false rest fits = refl
flag_again true rest fits = refl

pub flag_field : IsField any_value flag_bytes flag_read
flag_field = record { takes = flag_takes; again = flag_again }

-- ---- faults

fault_field : IsField IsFaultRow fault_bytes fault_read
unfolding fault_read
fault_field = record_field (λ f. record { code = f.0.0.0; reason = f.0.0.1; index = f.0.1; detail = f.1 }) (λ f. (((f.code, f.reason), f.index), f.detail))
    (both (both (both byte_field byte_field) number64_field) number32_field)
    (λ f. refl) (λ v. refl) (λ f. refl) (λ f h. (h.0.0.0, h.0.0.1, h.0.1, h.1)) (λ f h. (((h.0, h.1), h.2), h.3))

abbrev no_fault : FaultRow
no_fault = record { code = 0; reason = 0; index = 0; detail = 0 }

no_fault_fits : IsFaultRow no_fault
no_fault_fits = (omega arith, omega arith, omega arith, omega arith)

-- ---- answers

abbrev pub tag_of : Told → AnswerTag
tag_of (Yes rejudged need) = tags.Yes
tag_of (No rejudged fault) = tags.No
tag_of (NoRoom rejudged need free) = tags.NoRoom
tag_of (Leased number) = tags.Leased
tag_of (Dropped number) = tags.Dropped
tag_of (Ticked number) = tags.Ticked
tag_of (Moved number) = tags.Moved
tag_of (LeaseRefused fault) = tags.LeaseRefused
tag_of (MovesRefused fault) = tags.MovesRefused

-- the fields behind the tag
abbrev pub own_fields : Told → List (List ℕ)
own_fields (Yes rejudged need) = flag_bytes rejudged ∷ number64 need ∷ []
own_fields (No rejudged fault) = flag_bytes rejudged ∷ fault_bytes fault ∷ []
own_fields (NoRoom rejudged need free) = flag_bytes rejudged ∷ number64 need ∷ number32 free ∷ []
own_fields (Leased number) = number32 number ∷ []
own_fields (Dropped number) = number32 number ∷ []
own_fields (Ticked number) = number64 number ∷ []
own_fields (Moved number) = number32 number ∷ []
own_fields (LeaseRefused fault) = fault_bytes fault ∷ []
own_fields (MovesRefused fault) = fault_bytes fault ∷ []

abbrev pub IsTagged : AnswerTag → Told → Type 0
IsTagged tag told = IsTold told × (tag_of told ≡ tag)

zero32 : 0 < 2 ^ 32
zero32 = omega arith

zero64 : 0 < 2 ^ 64
zero64 = omega arith

yes_layout : IsLayout (IsTagged tags.Yes) own_fields 2 yes_read
yes_layout =
    made_layout _ _ 2 _ (step_layout _ _ _ _ _ _ 2 flag_field false tt (λ _ _. step_layout _ _ _ _ _ _ 3 number64_field 0 zero64 (λ _ _. end_layout 4)))
    (λ v. Yes v.0 v.1.0) (IsTagged tags.Yes) own_fields back (λ v f. (f.1.0, refl)) (λ v f. refl)
  where
    back : (w : Told) → IsTagged tags.Yes w → (v : (Bool × (ℕ × Unit {0}))) × (Unit {0} × ((v.1.0 < 2 ^ 64) × Unit {0})) × (Yes v.0 v.1.0 ≡ w)
    back (Yes rejudged need) is = ((rejudged, (need, tt)), (tt, (is.0, tt)), refl)
    back (No rejudged fault) is = let no : tags.No ≡ tags.Yes = is.1 in absurd cc
    back (NoRoom rejudged need free) is = let no : tags.NoRoom ≡ tags.Yes = is.1 in absurd cc
    back (Leased number) is = let no : tags.Leased ≡ tags.Yes = is.1 in absurd cc
    back (Dropped number) is = let no : tags.Dropped ≡ tags.Yes = is.1 in absurd cc
    back (Ticked number) is = let no : tags.Ticked ≡ tags.Yes = is.1 in absurd cc
    back (Moved number) is = let no : tags.Moved ≡ tags.Yes = is.1 in absurd cc
    back (LeaseRefused fault) is = let no : tags.LeaseRefused ≡ tags.Yes = is.1 in absurd cc
    back (MovesRefused fault) is = let no : tags.MovesRefused ≡ tags.Yes = is.1 in absurd cc

no_layout : IsLayout (IsTagged tags.No) own_fields 2 no_read
no_layout =
    made_layout _ _ 2 _ (step_layout _ _ _ _ _ _ 2 flag_field false tt (λ _ _. step_layout _ _ _ _ _ _ 3 fault_field no_fault no_fault_fits (λ _ _. end_layout 4)))
    (λ v. No v.0 v.1.0) (IsTagged tags.No) own_fields back (λ v f. (f.1.0, refl)) (λ v f. refl)
  where
    back : (w : Told) → IsTagged tags.No w → (v : (Bool × (FaultRow × Unit {0}))) × (Unit {0} × (IsFaultRow v.1.0 × Unit {0})) × (No v.0 v.1.0 ≡ w)
    back (Yes rejudged need) is = let no : tags.Yes ≡ tags.No = is.1 in absurd cc
    back (No rejudged fault) is = ((rejudged, (fault, tt)), (tt, (is.0, tt)), refl)
    back (NoRoom rejudged need free) is = let no : tags.NoRoom ≡ tags.No = is.1 in absurd cc
    back (Leased number) is = let no : tags.Leased ≡ tags.No = is.1 in absurd cc
    back (Dropped number) is = let no : tags.Dropped ≡ tags.No = is.1 in absurd cc
    back (Ticked number) is = let no : tags.Ticked ≡ tags.No = is.1 in absurd cc
    back (Moved number) is = let no : tags.Moved ≡ tags.No = is.1 in absurd cc
    back (LeaseRefused fault) is = let no : tags.LeaseRefused ≡ tags.No = is.1 in absurd cc
    back (MovesRefused fault) is = let no : tags.MovesRefused ≡ tags.No = is.1 in absurd cc

no_room_layout : IsLayout (IsTagged tags.NoRoom) own_fields 2 no_room_read
no_room_layout =
    made_layout _ _ 2 _ (step_layout _ _ _ _ _ _ 2 flag_field false tt (λ _ _. step_layout _ _ _ _ _ _ 3 number64_field 0 zero64 (λ _ _. step_layout _ _ _ _ _ _ 4 number32_field 0 zero32 (λ _ _. end_layout 5))))
    (λ v. NoRoom v.0 v.1.0 v.1.1.0) (IsTagged tags.NoRoom) own_fields back (λ v f. ((f.1.0, f.1.1.0), refl)) (λ v f. refl)
  where
    back : (w : Told) → IsTagged tags.NoRoom w → (v : (Bool × (ℕ × (ℕ × Unit {0})))) × (Unit {0} × ((v.1.0 < 2 ^ 64) × ((v.1.1.0 < 2 ^ 32) × Unit {0}))) × (NoRoom v.0 v.1.0 v.1.1.0 ≡ w)
    back (Yes rejudged need) is = let no : tags.Yes ≡ tags.NoRoom = is.1 in absurd cc
    back (No rejudged fault) is = let no : tags.No ≡ tags.NoRoom = is.1 in absurd cc
    back (NoRoom rejudged need free) is = ((rejudged, (need, (free, tt))), (tt, (is.0.0, (is.0.1, tt))), refl)
    back (Leased number) is = let no : tags.Leased ≡ tags.NoRoom = is.1 in absurd cc
    back (Dropped number) is = let no : tags.Dropped ≡ tags.NoRoom = is.1 in absurd cc
    back (Ticked number) is = let no : tags.Ticked ≡ tags.NoRoom = is.1 in absurd cc
    back (Moved number) is = let no : tags.Moved ≡ tags.NoRoom = is.1 in absurd cc
    back (LeaseRefused fault) is = let no : tags.LeaseRefused ≡ tags.NoRoom = is.1 in absurd cc
    back (MovesRefused fault) is = let no : tags.MovesRefused ≡ tags.NoRoom = is.1 in absurd cc

leased_layout : IsLayout (IsTagged tags.Leased) own_fields 2 leased_read
leased_layout =
    made_layout _ _ 2 _ (step_layout _ _ _ _ _ _ 2 number32_field 0 zero32 (λ _ _. end_layout 3))
    (λ v. Leased v.0) (IsTagged tags.Leased) own_fields back (λ v f. (f.0, refl)) (λ v f. refl)
  where
    back : (w : Told) → IsTagged tags.Leased w → (v : (ℕ × Unit {0})) × ((v.0 < 2 ^ 32) × Unit {0}) × (Leased v.0 ≡ w)
    back (Yes rejudged need) is = let no : tags.Yes ≡ tags.Leased = is.1 in absurd cc
    back (No rejudged fault) is = let no : tags.No ≡ tags.Leased = is.1 in absurd cc
    back (NoRoom rejudged need free) is = let no : tags.NoRoom ≡ tags.Leased = is.1 in absurd cc
    back (Leased number) is = ((number, tt), (is.0, tt), refl)
    back (Dropped number) is = let no : tags.Dropped ≡ tags.Leased = is.1 in absurd cc
    back (Ticked number) is = let no : tags.Ticked ≡ tags.Leased = is.1 in absurd cc
    back (Moved number) is = let no : tags.Moved ≡ tags.Leased = is.1 in absurd cc
    back (LeaseRefused fault) is = let no : tags.LeaseRefused ≡ tags.Leased = is.1 in absurd cc
    back (MovesRefused fault) is = let no : tags.MovesRefused ≡ tags.Leased = is.1 in absurd cc

dropped_layout : IsLayout (IsTagged tags.Dropped) own_fields 2 dropped_read
dropped_layout =
    made_layout _ _ 2 _ (step_layout _ _ _ _ _ _ 2 number32_field 0 zero32 (λ _ _. end_layout 3))
    (λ v. Dropped v.0) (IsTagged tags.Dropped) own_fields back (λ v f. (f.0, refl)) (λ v f. refl)
  where
    back : (w : Told) → IsTagged tags.Dropped w → (v : (ℕ × Unit {0})) × ((v.0 < 2 ^ 32) × Unit {0}) × (Dropped v.0 ≡ w)
    back (Yes rejudged need) is = let no : tags.Yes ≡ tags.Dropped = is.1 in absurd cc
    back (No rejudged fault) is = let no : tags.No ≡ tags.Dropped = is.1 in absurd cc
    back (NoRoom rejudged need free) is = let no : tags.NoRoom ≡ tags.Dropped = is.1 in absurd cc
    back (Leased number) is = let no : tags.Leased ≡ tags.Dropped = is.1 in absurd cc
    back (Dropped number) is = ((number, tt), (is.0, tt), refl)
    back (Ticked number) is = let no : tags.Ticked ≡ tags.Dropped = is.1 in absurd cc
    back (Moved number) is = let no : tags.Moved ≡ tags.Dropped = is.1 in absurd cc
    back (LeaseRefused fault) is = let no : tags.LeaseRefused ≡ tags.Dropped = is.1 in absurd cc
    back (MovesRefused fault) is = let no : tags.MovesRefused ≡ tags.Dropped = is.1 in absurd cc

ticked_layout : IsLayout (IsTagged tags.Ticked) own_fields 2 ticked_read
ticked_layout =
    made_layout _ _ 2 _ (step_layout _ _ _ _ _ _ 2 number64_field 0 zero64 (λ _ _. end_layout 3))
    (λ v. Ticked v.0) (IsTagged tags.Ticked) own_fields back (λ v f. (f.0, refl)) (λ v f. refl)
  where
    back : (w : Told) → IsTagged tags.Ticked w → (v : (ℕ × Unit {0})) × ((v.0 < 2 ^ 64) × Unit {0}) × (Ticked v.0 ≡ w)
    back (Yes rejudged need) is = let no : tags.Yes ≡ tags.Ticked = is.1 in absurd cc
    back (No rejudged fault) is = let no : tags.No ≡ tags.Ticked = is.1 in absurd cc
    back (NoRoom rejudged need free) is = let no : tags.NoRoom ≡ tags.Ticked = is.1 in absurd cc
    back (Leased number) is = let no : tags.Leased ≡ tags.Ticked = is.1 in absurd cc
    back (Dropped number) is = let no : tags.Dropped ≡ tags.Ticked = is.1 in absurd cc
    back (Ticked number) is = ((number, tt), (is.0, tt), refl)
    back (Moved number) is = let no : tags.Moved ≡ tags.Ticked = is.1 in absurd cc
    back (LeaseRefused fault) is = let no : tags.LeaseRefused ≡ tags.Ticked = is.1 in absurd cc
    back (MovesRefused fault) is = let no : tags.MovesRefused ≡ tags.Ticked = is.1 in absurd cc

moved_layout : IsLayout (IsTagged tags.Moved) own_fields 2 moved_read
moved_layout =
    made_layout _ _ 2 _ (step_layout _ _ _ _ _ _ 2 number32_field 0 zero32 (λ _ _. end_layout 3))
    (λ v. Moved v.0) (IsTagged tags.Moved) own_fields back (λ v f. (f.0, refl)) (λ v f. refl)
  where
    back : (w : Told) → IsTagged tags.Moved w → (v : (ℕ × Unit {0})) × ((v.0 < 2 ^ 32) × Unit {0}) × (Moved v.0 ≡ w)
    back (Yes rejudged need) is = let no : tags.Yes ≡ tags.Moved = is.1 in absurd cc
    back (No rejudged fault) is = let no : tags.No ≡ tags.Moved = is.1 in absurd cc
    back (NoRoom rejudged need free) is = let no : tags.NoRoom ≡ tags.Moved = is.1 in absurd cc
    back (Leased number) is = let no : tags.Leased ≡ tags.Moved = is.1 in absurd cc
    back (Dropped number) is = let no : tags.Dropped ≡ tags.Moved = is.1 in absurd cc
    back (Ticked number) is = let no : tags.Ticked ≡ tags.Moved = is.1 in absurd cc
    back (Moved number) is = ((number, tt), (is.0, tt), refl)
    back (LeaseRefused fault) is = let no : tags.LeaseRefused ≡ tags.Moved = is.1 in absurd cc
    back (MovesRefused fault) is = let no : tags.MovesRefused ≡ tags.Moved = is.1 in absurd cc

lease_refused_layout : IsLayout (IsTagged tags.LeaseRefused) own_fields 2 lease_refused_read
lease_refused_layout =
    made_layout _ _ 2 _ (step_layout _ _ _ _ _ _ 2 fault_field no_fault no_fault_fits (λ _ _. end_layout 3))
    (λ v. LeaseRefused v.0) (IsTagged tags.LeaseRefused) own_fields back (λ v f. (f.0, refl)) (λ v f. refl)
  where
    back : (w : Told) → IsTagged tags.LeaseRefused w → (v : (FaultRow × Unit {0})) × (IsFaultRow v.0 × Unit {0}) × (LeaseRefused v.0 ≡ w)
    back (Yes rejudged need) is = let no : tags.Yes ≡ tags.LeaseRefused = is.1 in absurd cc
    back (No rejudged fault) is = let no : tags.No ≡ tags.LeaseRefused = is.1 in absurd cc
    back (NoRoom rejudged need free) is = let no : tags.NoRoom ≡ tags.LeaseRefused = is.1 in absurd cc
    back (Leased number) is = let no : tags.Leased ≡ tags.LeaseRefused = is.1 in absurd cc
    back (Dropped number) is = let no : tags.Dropped ≡ tags.LeaseRefused = is.1 in absurd cc
    back (Ticked number) is = let no : tags.Ticked ≡ tags.LeaseRefused = is.1 in absurd cc
    back (Moved number) is = let no : tags.Moved ≡ tags.LeaseRefused = is.1 in absurd cc
    back (LeaseRefused fault) is = ((fault, tt), (is.0, tt), refl)
    back (MovesRefused fault) is = let no : tags.MovesRefused ≡ tags.LeaseRefused = is.1 in absurd cc

moves_refused_layout : IsLayout (IsTagged tags.MovesRefused) own_fields 2 moves_refused_read
moves_refused_layout =
    made_layout _ _ 2 _ (step_layout _ _ _ _ _ _ 2 fault_field no_fault no_fault_fits (λ _ _. end_layout 3))
    (λ v. MovesRefused v.0) (IsTagged tags.MovesRefused) own_fields back (λ v f. (f.0, refl)) (λ v f. refl)
  where
    back : (w : Told) → IsTagged tags.MovesRefused w → (v : (FaultRow × Unit {0})) × (IsFaultRow v.0 × Unit {0}) × (MovesRefused v.0 ≡ w)
    back (Yes rejudged need) is = let no : tags.Yes ≡ tags.MovesRefused = is.1 in absurd cc
    back (No rejudged fault) is = let no : tags.No ≡ tags.MovesRefused = is.1 in absurd cc
    back (NoRoom rejudged need free) is = let no : tags.NoRoom ≡ tags.MovesRefused = is.1 in absurd cc
    back (Leased number) is = let no : tags.Leased ≡ tags.MovesRefused = is.1 in absurd cc
    back (Dropped number) is = let no : tags.Dropped ≡ tags.MovesRefused = is.1 in absurd cc
    back (Ticked number) is = let no : tags.Ticked ≡ tags.MovesRefused = is.1 in absurd cc
    back (Moved number) is = let no : tags.Moved ≡ tags.MovesRefused = is.1 in absurd cc
    back (LeaseRefused fault) is = let no : tags.LeaseRefused ≡ tags.MovesRefused = is.1 in absurd cc
    back (MovesRefused fault) is = ((fault, tt), (is.0, tt), refl)

told_layout : (tag : AnswerTag) → any_value tag → IsLayout (IsTagged tag) own_fields 2 (told_read tag)
told_layout tags.Yes _ = yes_layout
told_layout tags.No _ = no_layout
told_layout tags.NoRoom _ = no_room_layout
told_layout tags.Leased _ = leased_layout
told_layout tags.Dropped _ = dropped_layout
told_layout tags.Ticked _ = ticked_layout
told_layout tags.Moved _ = moved_layout
told_layout tags.LeaseRefused _ = lease_refused_layout
told_layout tags.MovesRefused _ = moves_refused_layout

-- all fields: those behind the tag, and the tag
fields_are : (told : Told) → told_fields told ≡ answer_tag_bytes (tag_of told) ∷ own_fields told
fields_are (Yes rejudged need) = refl
fields_are (No rejudged fault) = refl
fields_are (NoRoom rejudged need free) = refl
fields_are (Leased number) = refl
fields_are (Dropped number) = refl
fields_are (Ticked number) = refl
fields_are (Moved number) = refl
fields_are (LeaseRefused fault) = refl
fields_are (MovesRefused fault) = refl

pub answer_layout : IsLayout IsAnswerRow answer_fields 0 answer_read
unfolding answer_read
answer_layout =
    made_layout _ _ 0 _
    (step_layout _ _ _ _ _ _ 0 number32_field 0 zero32 (λ _ _. step_layout any_value answer_tag_bytes answer_tag_read IsTagged (λ _. own_fields) told_read 1 tag_field tags.Ticked tt told_layout))
    (λ v. record { position = v.0; told = v.1.1 }) IsAnswerRow answer_fields (λ w is. ((w.position, (tag_of w.told, w.told)), (is.0, (tt, (is.1, refl))), refl)) (λ v f. (f.0, f.1.1.0))
    (λ v f. ap (λ (l : List (List ℕ)). number32 v.0 ∷ l) (fields_are v.1.1 ∙ ap (λ (t : AnswerTag). answer_tag_bytes t ∷ own_fields v.1.1) f.1.1.1))
