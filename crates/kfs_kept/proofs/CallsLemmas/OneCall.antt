-- Bytes are those of one call, which leads to one state with one answer.
use Rattle.std.proofs.Common.{◌≡◌, ℕ, zero, suc, ◌<◌, ◌≤◌, ◌^◌, List, [], ◌∷◌, ◌++◌, length, take, drop, get_or, map, ◌⊎◌, Option, Some, Result, Ok, refl, sym, ap, subst, ◌∙◌, append_assoc, append-nil, arith, inl, inr}
use Rattle.std.proofs.lemmas.Bool.{cases_lt}
use Rattle.std.proofs.lemmas.List.{length-map}
use Rattle.kfs_model.specs.Migration.{Move}
use Rattle.kfs_model.specs.Spelling.{number16}
use Rattle.kfs_model.proofs.Fields.{number16_field}
use Rattle.kfs_model.proofs.Reading.{number16_read}
use Rattle.kfs_call.specs.Call.{Call, Submit, Lease, Drop, Tick, Migrate, LeaseAt, IsCall, call_bytes, call_fields, move_bytes}
use Rattle.kfs_call.specs.Layout.{joined, LacksField}
use Rattle.kfs_call.specs.Readers.{call_read}
use Rattle.kfs_call.proofs.CallLaws.{call_layout}

abbrev found : Call × List ℕ → Result (Call × List ℕ) ℕ
found x = Ok x

found_is : (x y : Call × List ℕ) → found x ≡ found y → x ≡ y
found_is x y is = cc

-- the bytes of a call, before more bytes
read_again : (call : Call) (more : List ℕ) → IsCall call → call_read (call_bytes call ++ more) ≡ found (call, more)
read_again call more fits = call_layout.again call more fits

-- two calls at the front of the same bytes
pub one_call : (a b : Call) (more rest : List ℕ) → IsCall a → IsCall b → call_bytes a ++ more ≡ call_bytes b ++ rest → (a ≡ b) × (more ≡ rest)
one_call a b more rest a_fits b_fits same =
    let both = found_is (a, more) (b, rest) (sym (read_again a more a_fits) ∙ ap call_read same ∙ read_again b rest b_fits) in
    (ap (λ (x : Call × List ℕ). x.0) both, ap (λ (x : Call × List ℕ). x.1) both)

pub same_call : (bytes : List ℕ) (a b : Call) → IsCall a → IsCall b → bytes ≡ call_bytes a → bytes ≡ call_bytes b → a ≡ b
same_call bytes a b a_fits b_fits is this =
    (one_call a b [] [] a_fits b_fits (append-nil (call_bytes a) ∙ sym is ∙ this ∙ sym (append-nil (call_bytes b)))).0

-- ---- bytes of a call are never refused as none

abbrev tag_of : Call → ℕ
tag_of (Submit client log plan) = 1
tag_of (Lease client kind end path) = 2
tag_of (Drop client number) = 3
tag_of (Tick moment) = 4
tag_of (Migrate moves) = 5
tag_of (LeaseAt client kind end number) = 6

tag_first : (call : Call) (k : ℕ) (rest : List ℕ) → get_or (joined (take (suc k) (call_fields call)) ++ rest) 0 0 ≡ tag_of call
tag_first (Submit client log plan) k rest = refl
tag_first (Lease client kind end path) k rest = refl
tag_first (Drop client number) k rest = refl
tag_first (Tick moment) k rest = refl
tag_first (Migrate moves) k rest = refl
tag_first (LeaseAt client kind end number) k rest = refl

tag_whole : (call : Call) → get_or (call_bytes call) 0 0 ≡ tag_of call
tag_whole (Submit client log plan) = refl
tag_whole (Lease client kind end path) = refl
tag_whole (Drop client number) = refl
tag_whole (Tick moment) = refl
tag_whole (Migrate moves) = refl
tag_whole (LeaseAt client kind end number) = refl

-- the first fields and the others
joined_parts : (n : ℕ) (fields : List (List ℕ)) → joined fields ≡ joined (take n fields) ++ joined (drop n fields)
joined_parts zero fields = refl
joined_parts (suc n) [] = refl
joined_parts (suc n) (field ∷ fields) = ap (λ (l : List ℕ). field ++ l) (joined_parts n fields) ∙ sym (append_assoc field (joined (take n fields)) (joined (drop n fields)))

-- calls with one tag have as many fields, unless they move blocks
abbrev HaveSoMany : Call → Call → Type 0
HaveSoMany call other = (length (call_fields call) ≡ length (call_fields other)) ⊎ ((moves more : List Move) × (call ≡ Migrate moves) × (other ≡ Migrate more))

so_many : (call other : Call) → tag_of call ≡ tag_of other → HaveSoMany call other
so_many (Submit client log plan) (Submit c l p) tags = inl refl
so_many (Submit client log plan) (Lease c k e p) tags = absurd (omega (arith, tags))
so_many (Submit client log plan) (Drop c n) tags = absurd (omega (arith, tags))
so_many (Submit client log plan) (Tick m) tags = absurd (omega (arith, tags))
so_many (Submit client log plan) (Migrate m) tags = absurd (omega (arith, tags))
so_many (Submit client log plan) (LeaseAt c k e n) tags = absurd (omega (arith, tags))
so_many (Lease client kind end path) (Submit c l p) tags = absurd (omega (arith, tags))
so_many (Lease client kind end path) (Lease c k e p) tags = inl refl
so_many (Lease client kind end path) (Drop c n) tags = absurd (omega (arith, tags))
so_many (Lease client kind end path) (Tick m) tags = absurd (omega (arith, tags))
so_many (Lease client kind end path) (Migrate m) tags = absurd (omega (arith, tags))
so_many (Lease client kind end path) (LeaseAt c k e n) tags = absurd (omega (arith, tags))
so_many (Drop client number) (Submit c l p) tags = absurd (omega (arith, tags))
so_many (Drop client number) (Lease c k e p) tags = absurd (omega (arith, tags))
so_many (Drop client number) (Drop c n) tags = inl refl
so_many (Drop client number) (Tick m) tags = absurd (omega (arith, tags))
so_many (Drop client number) (Migrate m) tags = absurd (omega (arith, tags))
so_many (Drop client number) (LeaseAt c k e n) tags = absurd (omega (arith, tags))
so_many (Tick moment) (Submit c l p) tags = absurd (omega (arith, tags))
so_many (Tick moment) (Lease c k e p) tags = absurd (omega (arith, tags))
so_many (Tick moment) (Drop c n) tags = absurd (omega (arith, tags))
so_many (Tick moment) (Tick m) tags = inl refl
so_many (Tick moment) (Migrate m) tags = absurd (omega (arith, tags))
so_many (Tick moment) (LeaseAt c k e n) tags = absurd (omega (arith, tags))
so_many (Migrate moves) (Submit c l p) tags = absurd (omega (arith, tags))
so_many (Migrate moves) (Lease c k e p) tags = absurd (omega (arith, tags))
so_many (Migrate moves) (Drop c n) tags = absurd (omega (arith, tags))
so_many (Migrate moves) (Tick m) tags = absurd (omega (arith, tags))
so_many (Migrate moves) (Migrate m) tags = inr (moves, m, refl, refl)
so_many (Migrate moves) (LeaseAt c k e n) tags = absurd (omega (arith, tags))
so_many (LeaseAt client kind end number) (Submit c l p) tags = absurd (omega (arith, tags))
so_many (LeaseAt client kind end number) (Lease c k e p) tags = absurd (omega (arith, tags))
so_many (LeaseAt client kind end number) (Drop c n) tags = absurd (omega (arith, tags))
so_many (LeaseAt client kind end number) (Tick m) tags = absurd (omega (arith, tags))
so_many (LeaseAt client kind end number) (Migrate m) tags = absurd (omega (arith, tags))
so_many (LeaseAt client kind end number) (LeaseAt c k e n) tags = inl refl

abbrev counted : ℕ × List ℕ → Option (ℕ × List ℕ)
counted x = Some x

counted_is : (x y : ℕ × List ℕ) → counted x ≡ counted y → x ≡ y
counted_is x y is = cc

-- the count of moves stands behind the tag
same_moves : (moves more : List Move) (k : ℕ) (rest : List ℕ) → length moves < 2 ^ 16 → length more < 2 ^ 16
    → call_bytes (Migrate moves) ≡ joined (take (suc (suc k)) (call_fields (Migrate more))) ++ rest → length moves ≡ length more
same_moves moves more k rest few fewer same =
    let behind = joined (map move_bytes moves) in
    let other = joined (take k (map move_bytes more)) in
    let tails : number16 (length moves) ++ behind ≡ number16 (length more) ++ (other ++ rest) = ap (drop 1) same ∙ append_assoc (number16 (length more)) other rest in
    let both = counted_is (length moves, behind) (length more, other ++ rest)
    (sym (number16_field.again (length moves) behind few) ∙ ap number16_read tails ∙ number16_field.again (length more) (other ++ rest) fewer) in
    ap (λ (x : ℕ × List ℕ). x.0) both

two_fields : (call : Call) → 2 ≤ length (call_fields call)
two_fields (Submit client log plan) = omega arith
two_fields (Lease client kind end path) = omega arith
two_fields (Drop client number) = omega arith
two_fields (Tick moment) = omega arith
two_fields (Migrate moves) = omega arith
two_fields (LeaseAt client kind end number) = omega arith

-- the bytes of a call don't begin with as many fields of a call that has more
not_more : (call other : Call) (k : ℕ) (rest : List ℕ) → IsCall call → IsCall other → length (call_fields call) ≤ k → k < length (call_fields other)
    → call_bytes call ≡ joined (take k (call_fields other)) ++ rest → ⊥
not_more call other zero rest fits other_fits le lt same = let two = two_fields call in omega (arith, two, le)
not_more call other (suc zero) rest fits other_fits le lt same = let two = two_fields call in omega (arith, two, le)
not_more call other (suc (suc k)) rest fits other_fits le lt same =
    by (so_many call other (sym (tag_whole call) ∙ ap (λ (l : List ℕ). get_or l 0 0) same ∙ tag_first other (suc k) rest))
  where
    by : HaveSoMany call other → ⊥
    by (inl as_many) = omega (arith, as_many, le, lt)
    by (inr (moves, more, is, this)) =
        let few : length moves < 2 ^ 16 = (subst IsCall is fits).0 in
        let fewer : length more < 2 ^ 16 = (subst IsCall this other_fits).0 in
        let alike : call_bytes (Migrate moves) ≡ joined (take (suc (suc k)) (call_fields (Migrate more))) ++ rest =
        sym (ap call_bytes is) ∙ same ∙ ap (λ (c : Call). joined (take (suc (suc k)) (call_fields c)) ++ rest) this in
        let as_many = same_moves moves more k rest few fewer alike in
        let many : length (map move_bytes moves) ≡ length moves = length-map moves move_bytes in
        let others : length (map move_bytes more) ≡ length more = length-map more move_bytes in
        let fields : length (call_fields call) ≡ suc (suc (length moves)) = ap (λ (c : Call). length (call_fields c)) is ∙ ap (λ (n : ℕ). suc (suc n)) many in
        let other_fields : length (call_fields other) ≡ suc (suc (length more)) = ap (λ (c : Call). length (call_fields c)) this ∙ ap (λ (n : ℕ). suc (suc n)) others in
        omega (arith, as_many, fields, other_fields, le, lt)

-- the bytes of a call lack no field
pub never_lacks : (call : Call) (bytes : List ℕ) (k : ℕ) → IsCall call → bytes ≡ call_bytes call → LacksField IsCall call_fields k bytes → ⊥
never_lacks call bytes k fits is lacks = elim (cases_lt k (length (call_fields call))) [
  | inl lt ↦ lacks.none (call, joined (drop (suc k) (call_fields call)), fits, lt, is ∙ joined_parts (suc k) (call_fields call))
  | inr le ↦ not_more call lacks.value k lacks.rest fits lacks.fits le lacks.more (sym is ∙ lacks.before)
]

-- no bytes remain behind it
pub never_trails : (call other : Call) (bytes more : List ℕ) → IsCall call → IsCall other → bytes ≡ call_bytes call → bytes ≡ call_bytes other ++ more → more ≡ []
never_trails call other bytes more fits other_fits is this = (one_call other call more [] other_fits fits (sym this ∙ is ∙ sym (append-nil (call_bytes call)))).1
