-- What a list of tiers shows, and what it shows once one of them has changed.
use Rattle.std.proofs.Common.{◌≡◌, ◌≢◌, ℕ, zero, suc, ◌+◌, ◌<◌, ◌≤◌, Bool, true, false, cond, not, ◌&&◌, List, [], ◌∷◌, length, get_or, set, drop, Option, Some, None, unwrap_or, Result, Ok, Err, refl, sym, ap, subst, ◌∙◌, arith, inl, inr}
use Rattle.std.specs.Prelude.{IsSome, OnOk, OnErr}
use Rattle.std.specs.declared.cmp.Ordering.{Ordering}
use Rattle.std.specs.declared.cmp.Ordering.TheVariants.{Less, Equal, Greater}
use Rattle.std.specs.Ordering.{nat_cmp, is_eq, eq_by_cmp, ordering_then}
use Rattle.std.specs.Cmp.{eq_by_cmp_equiv}
use Rattle.std.specs.FinMap.Entries.{find}
use Rattle.std.proofs.lemmas.Bool.{cases_eq, cases_lt}
use Rattle.std.proofs.lemmas.List.{get_or-set_same, get_or-set_other, get_or-map, get_or_default, get_or_past, map-set, length-map, set-get_or, at_drop_more, drop_all}
use Rattle.kfs_model.specs.Table.{numbers, pairs, get, insert}
use Rattle.kfs_model.specs.Placement.{Place}
use Rattle.kfs_model.proofs.TableLaws.{get-insert, get-remove, same_table}
use Rattle.kfs_model.specs.Device.Device.{Devices}
use Rattle.kfs_image.specs.declared.tier.tiers.NewBlock.{NewBlock}
use Rattle.kfs_image.specs.Tier.Blocks.{BlockTable, block_at, HasRoomForBlock, KeepsBlocks, with_room}
use Rattle.kfs_image.specs.Tier.Places.{is_free_in}
use Rattle.kfs_image.specs.Tier.Tier.{TierShown}
use Rattle.kfs_image.specs.Tier.Tiers.{places_in, is_free_at, IsInTier, with_place, with_places, with_blocks}
use Rattle.kfs_image.specs.Tier.TierViews.{free_of, no_tier, tier_of, with_slot, with_slots, devices_from, devices_of, HasRoomAt, CanTurnPlaces}
use Rattle.kfs_image.proofs.TierLemmas.BlockTables.{eq_by_cmp-same, eq_by_cmp-other}

-- ---- the devices

both_equal : (a b : Ordering) → is_eq (ordering_then a b) ≡ (is_eq a && is_eq b)
both_equal Less b = refl
both_equal Equal b = refl
both_equal Greater b = refl

same_pair : (t p tier place : ℕ) → eq_by_cmp (pairs numbers numbers).compare (t, p) (tier, place) ≡ (eq_by_cmp nat_cmp t tier && eq_by_cmp nat_cmp p place)
same_pair t p tier place = both_equal (nat_cmp t tier) (nat_cmp p place)

turned : {X : Type 0} (a b : Bool) (rest : Option X) → a ≡ b → cond (not a) rest None ≡ cond b None rest
turned true b rest same = ap (λ b. cond b None rest) same
turned false b rest same = ap (λ b. cond b None rest) same

module _ (tier : ℕ) where
  get-with_slot : (place : ℕ) (slot : Option (List ℕ)) (devices : Devices) (t p : ℕ)
      → get (with_slot tier place slot devices) (t, p) ≡ cond (eq_by_cmp nat_cmp t tier && eq_by_cmp nat_cmp p place) slot (get devices (t, p))
  get-with_slot place (Some bytes) devices t p = get-insert devices (tier, place) bytes (t, p) ∙ ap (λ b. cond b (Some bytes) (get devices (t, p))) (same_pair t p tier place)
  get-with_slot place None devices t p =
      get-remove devices (tier, place) (t, p)
      ∙ turned (eq_by_cmp (pairs numbers numbers).compare (tier, place) (t, p)) (eq_by_cmp (pairs numbers numbers).compare (t, p) (tier, place)) (get devices (t, p))
      ((eq_by_cmp_equiv (pairs numbers numbers).total).symm (tier, place) (t, p))
      ∙ ap (λ b. cond b None (get devices (t, p))) (same_pair t p tier place)

  here : (slots : List (ℕ × Option (List ℕ))) (devices : Devices) (p : ℕ) → get (with_slots tier slots devices) (tier, p) ≡ unwrap_or (find nat_cmp p slots) (get devices (tier, p))
  unfolding with_slots
  here [] devices p = refl
  here (slot ∷ slots) devices p =
      get-with_slot slot.0 slot.1 (with_slots tier slots devices) tier p
      ∙ ap (λ b. cond (b && eq_by_cmp nat_cmp p slot.0) slot.1 (get (with_slots tier slots devices) (tier, p))) (eq_by_cmp-same tier tier refl)
      ∙ at (here slots devices p) (eq_by_cmp nat_cmp p slot.0)
    where
      at : get (with_slots tier slots devices) (tier, p) ≡ unwrap_or (find nat_cmp p slots) (get devices (tier, p)) → (b : Bool)
          → cond b slot.1 (get (with_slots tier slots devices) (tier, p)) ≡ unwrap_or (cond b (Some slot.1) (find nat_cmp p slots)) (get devices (tier, p))
      at later true = refl
      at later false = later

  elsewhere : (slots : List (ℕ × Option (List ℕ))) (devices : Devices) (t p : ℕ) → t ≢ tier → get (with_slots tier slots devices) (t, p) ≡ get devices (t, p)
  unfolding with_slots
  elsewhere [] devices t p other = refl
  elsewhere (slot ∷ slots) devices t p other =
      get-with_slot slot.0 slot.1 (with_slots tier slots devices) t p
      ∙ ap (λ b. cond (b && eq_by_cmp nat_cmp p slot.0) slot.1 (get (with_slots tier slots devices) (t, p))) (eq_by_cmp-other t tier other)
      ∙ elsewhere slots devices t p other

before_first : (first : ℕ) (tiers : List TierShown) (t p : ℕ) → t < first → get (devices_from first tiers) (t, p) ≡ None
unfolding devices_from get
before_first first [] t p early = refl
before_first first (s ∷ ss) t p early =
    elsewhere first s.blocks.entries (devices_from (first + 1) ss) t p (λ same. omega arith) ∙ before_first (first + 1) ss t p (omega arith)

from_first : (first : ℕ) (tiers : List TierShown) (i p t : ℕ) → t ≡ first + i → get (devices_from first tiers) (t, p) ≡ block_at (tier_of tiers i).blocks p
unfolding devices_from get
from_first first [] i p t is = refl
from_first first (s ∷ ss) zero p t is =
    ap (λ n. get (devices_from first (s ∷ ss)) (n, p)) (let e : t ≡ first = omega arith in e)
    ∙ here first s.blocks.entries (devices_from (first + 1) ss) p
    ∙ ap (unwrap_or (find nat_cmp p s.blocks.entries)) (before_first (first + 1) ss first p (omega arith))
from_first first (s ∷ ss) (suc i) p t is =
    elsewhere first s.blocks.entries (devices_from (first + 1) ss) t p (λ same. omega arith) ∙ from_first (first + 1) ss i p t (omega arith)

pub get-devices_of : (tiers : List TierShown) (t p : ℕ) → get (devices_of tiers) (t, p) ≡ block_at (tier_of tiers t).blocks p
get-devices_of tiers t p = from_first 0 tiers t p t (omega arith)

pub same_devices : (old new : List TierShown) → ((t : ℕ) → KeepsBlocks (tier_of old t).blocks (tier_of new t).blocks) → devices_of new ≡ devices_of old
same_devices old new kept = same_table (devices_of new) (devices_of old) (λ q. get-devices_of new q.0 q.1 ∙ kept q.0 q.1 ∙ sym (get-devices_of old q.0 q.1))

pub tier_of-set : (tiers : List TierShown) (t : ℕ) (s : TierShown) → t < length tiers → tier_of (set tiers t s) t ≡ s
tier_of-set tiers t s within = get_or-set_same tiers t s no_tier within

pub tier_of-other : (tiers : List TierShown) (t q : ℕ) (s : TierShown) → q ≢ t → tier_of (set tiers t s) q ≡ tier_of tiers q
tier_of-other tiers t q s other = get_or-set_other tiers t q s no_tier other

module _ (tiers : List TierShown) (t : ℕ) (s : TierShown) (within : t < length tiers) where
  pub devices_of-kept : KeepsBlocks (tier_of tiers t).blocks s.blocks → devices_of (set tiers t s) ≡ devices_of tiers
  devices_of-kept kept =
      same_devices tiers (set tiers t s)
      (λ q p.
      elim (cases_eq q t) [
        | inl same ↦
            ap (λ n. block_at (tier_of (set tiers t s) n).blocks p) same ∙ ap (λ r. block_at r.blocks p) (tier_of-set tiers t s within) ∙ kept p
            ∙ ap (λ n. block_at (tier_of tiers n).blocks p) (sym same)
        | inr other ↦ ap (λ r. block_at r.blocks p) (tier_of-other tiers t q s other)
      ])

  block_at-insert : (blocks : BlockTable) (place : ℕ) (bytes : List ℕ) (p : ℕ) → block_at (insert blocks place (Some bytes)) p ≡ cond (eq_by_cmp nat_cmp p place) (Some bytes) (block_at blocks p)
  block_at-insert blocks place bytes p = ap (λ o. unwrap_or o None) (get-insert blocks place (Some bytes) p) ∙ at (eq_by_cmp nat_cmp p place)
    where
      at : (b : Bool) → unwrap_or (cond b (Some (Some bytes)) (get blocks p)) None ≡ cond b (Some bytes) (block_at blocks p)
      at true = refl
      at false = refl

  pub devices_of-written : (place : ℕ) (bytes : List ℕ) → s.blocks ≡ insert (tier_of tiers t).blocks place (Some bytes) → devices_of (set tiers t s) ≡ insert (devices_of tiers) (t, place) bytes
  devices_of-written place bytes written =
      same_table (devices_of (set tiers t s)) (insert (devices_of tiers) (t, place) bytes)
      (λ q.
      get-devices_of (set tiers t s) q.0 q.1
      ∙ elim (cases_eq q.0 t) [
        | inl same ↦
            ap (λ n. block_at (tier_of (set tiers t s) n).blocks q.1) same ∙ ap (λ r. block_at r.blocks q.1) (tier_of-set tiers t s within)
            ∙ ap (λ blocks. block_at blocks q.1) written ∙ block_at-insert (tier_of tiers t).blocks place bytes q.1
            ∙ ap (λ n. cond (eq_by_cmp nat_cmp q.1 place) (Some bytes) (block_at (tier_of tiers n).blocks q.1)) (sym same)
            ∙ ap (λ b. cond (b && eq_by_cmp nat_cmp q.1 place) (Some bytes) (block_at (tier_of tiers q.0).blocks q.1)) (sym (eq_by_cmp-same q.0 t same))
        | inr other ↦
            ap (λ r. block_at r.blocks q.1) (tier_of-other tiers t q.0 s other)
            ∙ ap (λ b. cond (b && eq_by_cmp nat_cmp q.1 place) (Some bytes) (block_at (tier_of tiers q.0).blocks q.1)) (sym (eq_by_cmp-other q.0 t other))
      ]
      ∙ ap (λ b. cond b (Some bytes) (block_at (tier_of tiers q.0).blocks q.1)) (sym (same_pair q.0 q.1 t place))
      ∙ ap (cond (eq_by_cmp (pairs numbers numbers).compare q (t, place)) (Some bytes)) (sym (get-devices_of tiers q.0 q.1))
      ∙ sym (get-insert (devices_of tiers) (t, place) bytes q))

-- ---- the places

pub length-free_of : (tiers : List TierShown) → length (free_of tiers) ≡ length tiers
length-free_of tiers = length-map tiers (λ s. s.places)

pub places_in-free_of : (tiers : List TierShown) (t : ℕ) → places_in (free_of tiers) t ≡ (tier_of tiers t).places
places_in-free_of tiers t = elim (cases_lt t (length tiers)) [
  | inl below ↦ get_or-map (λ s. s.places) tiers t no_tier [] below
  | inr past ↦ get_or_past (free_of tiers) t [] (omega (arith, length-free_of tiers)) ∙ sym (ap (λ s. s.places) (get_or_past tiers t no_tier past))
]

pub in_list : (tiers : List TierShown) (t p : ℕ) → p < length (places_in (free_of tiers) t) → t < length tiers
in_list tiers t p inside = elim (cases_lt t (length tiers)) [
  | inl below ↦ below
  | inr past ↦ absurd (let none = ap length (get_or_past (free_of tiers) t [] (omega (arith, length-free_of tiers))) in omega (arith, none, inside))
]

-- a tier in which one place turns, where the code reads it with some default
module _ (tiers : List TierShown) (place : Place) (t p : ℕ) (seen : TierShown) (view : ◌≡◌ {A = Place} (record { tier = t; place = p }) place) (inside : IsInTier (free_of tiers) place) where
  inside_here : p < length (places_in (free_of tiers) t)
  inside_here = subst (IsInTier (free_of tiers)) (sym view) inside

  as_read : get_or tiers t seen ≡ tier_of tiers t
  as_read = get_or_default tiers t seen no_tier (in_list tiers t p inside_here)

  pub free_there : (b : Bool) → is_free_at (free_of tiers) place ≡ b → is_free_in (get_or tiers t seen).places p ≡ b
  free_there b is = ap (λ s. is_free_in s.places p) as_read ∙ ap (λ places. is_free_in places p) (sym (places_in-free_of tiers t)) ∙ ap (is_free_at (free_of tiers)) view ∙ is

  module _ (value : Bool) (new : TierShown) (is : new ≡ record (get_or tiers t seen) { places = set (get_or tiers t seen).places p value }) where
    pub free_of-turned : free_of (set tiers t new) ≡ with_place value place (free_of tiers)
    free_of-turned =
        map-set (λ s. s.places) tiers t new
        ∙ ap (set (free_of tiers) t) (ap (λ s. s.places) is ∙ ap (λ s. set s.places p value) as_read ∙ ap (λ places. set places p value) (sym (places_in-free_of tiers t)))
        ∙ ap (λ q. with_place value q (free_of tiers)) view

    pub devices_of-turned : devices_of (set tiers t new) ≡ devices_of tiers
    devices_of-turned = devices_of-kept tiers t new (in_list tiers t p inside_here) (λ q. ap (λ s. block_at s.blocks q) is ∙ ap (λ s. block_at s.blocks q) as_read)

pub room_insert : (blocks : BlockTable) (place : ℕ) (slot : Option (List ℕ)) (q : ℕ) → HasRoomForBlock blocks q → HasRoomForBlock (insert blocks place slot) q
room_insert blocks place slot q room = subst IsSome (sym (get-insert blocks place slot q)) (at (eq_by_cmp nat_cmp q place))
  where
    at : (b : Bool) → IsSome (cond b (Some slot) (get blocks q))
    at true = refl
    at false = room

pub room_here : (blocks : BlockTable) (place : ℕ) (slot : Option (List ℕ)) → HasRoomForBlock (insert blocks place slot) place
room_here blocks place slot =
    subst IsSome (sym (get-insert blocks place slot place ∙ ap (λ b. cond b (Some slot) (get blocks place)) (eq_by_cmp-same place place refl))) (let e : IsSome (Some slot) = refl in e)

module _ {E : Type 0} (new seen : TierShown) (place : ℕ) where
  pub places_after : (result : Result (Unit {0}) E) → OnOk result (new ≡ record seen { blocks = with_room seen.blocks place }) → OnErr result (new ≡ seen) → new.places ≡ seen.places
  places_after (Ok done) made kept = ap (λ s. s.places) made
  places_after (Err error) made kept = ap (λ s. s.places) kept

  pub rooms_after : (result : Result (Unit {0}) E) → OnOk result (new ≡ record seen { blocks = with_room seen.blocks place }) → OnErr result (new ≡ seen)
      → (q : ℕ) → HasRoomForBlock seen.blocks q → HasRoomForBlock new.blocks q
  rooms_after (Ok done) made kept q room = subst (λ (s : TierShown). HasRoomForBlock s.blocks q) (sym made) (room_insert seen.blocks place (block_at seen.blocks place) q room)
  rooms_after (Err error) made kept q room = subst (λ (s : TierShown). HasRoomForBlock s.blocks q) (sym kept) room

-- a tier whose places stay as they are, where the code reads it with some default
module _ (tiers : List TierShown) (place : Place) (t p : ℕ) (seen new : TierShown) (view : ◌≡◌ {A = Place} (record { tier = t; place = p }) place) (inside : IsInTier (free_of tiers) place) where
  pub in_list_here : t < length tiers
  in_list_here = in_list tiers t p (subst (IsInTier (free_of tiers)) (sym view) inside)

  read_is : get_or tiers t seen ≡ tier_of tiers t
  read_is = get_or_default tiers t seen no_tier in_list_here

  pub free_of-kept : new.places ≡ (get_or tiers t seen).places → free_of (set tiers t new) ≡ free_of tiers
  free_of-kept same =
      map-set (λ s. s.places) tiers t new ∙ ap (set (free_of tiers) t) (same ∙ ap (λ s. s.places) read_is ∙ sym (places_in-free_of tiers t)) ∙ set-get_or (free_of tiers) t []

  pub devices_of-read : KeepsBlocks (get_or tiers t seen).blocks new.blocks → devices_of (set tiers t new) ≡ devices_of tiers
  devices_of-read kept = devices_of-kept tiers t new in_list_here (λ q. kept q ∙ ap (λ s. block_at s.blocks q) read_is)

  pub devices_of-put : (bytes : List ℕ) → new.blocks ≡ insert (get_or tiers t seen).blocks p (Some bytes) → devices_of (set tiers t new) ≡ insert (devices_of tiers) (place.tier, place.place) bytes
  devices_of-put bytes written =
      devices_of-written tiers t new in_list_here p bytes (written ∙ ap (λ s. insert s.blocks p (Some bytes)) read_is) ∙ ap (λ q. insert (devices_of tiers) (q.tier, q.place) bytes) view

  pub room_read : HasRoomAt tiers place → HasRoomForBlock (get_or tiers t seen).blocks p
  room_read room = subst (λ (s : TierShown). HasRoomForBlock s.blocks p) (sym read_is) (subst (HasRoomAt tiers) (sym view) room)

  pub rooms_kept : ((q : ℕ) → HasRoomForBlock (get_or tiers t seen).blocks q → HasRoomForBlock new.blocks q) → (other : Place) → HasRoomAt tiers other → HasRoomAt (set tiers t new) other
  rooms_kept more other room = elim (cases_eq other.tier t) [
    | inl same ↦
        subst (λ n. HasRoomForBlock (tier_of (set tiers t new) n).blocks other.place) (sym same)
        (subst (λ (s : TierShown). HasRoomForBlock s.blocks other.place) (sym (tier_of-set tiers t new in_list_here))
        (more other.place (subst (λ (s : TierShown). HasRoomForBlock s.blocks other.place) (sym read_is) (subst (λ n. HasRoomForBlock (tier_of tiers n).blocks other.place) same room))))
    | inr differs ↦ subst (λ (s : TierShown). HasRoomForBlock s.blocks other.place) (sym (tier_of-other tiers t other.tier new differs)) room
  ]

  pub room_made : HasRoomForBlock new.blocks p → HasRoomAt (set tiers t new) place
  room_made room = subst (HasRoomAt (set tiers t new)) view (subst (λ (s : TierShown). HasRoomForBlock s.blocks p) (sym (tier_of-set tiers t new in_list_here)) room)

-- ---- what is left of a list, and the conditions of its places

pub rest_at : {X : Type 0} (xs : List X) (i : ℕ) (x : X) → i < length xs → x ≡ get_or xs i x → drop i xs ≡ x ∷ drop (i + 1) xs
rest_at xs i x below is = at_drop_more (λ rest. rest) xs i x below ∙ ap (λ y. y ∷ drop (i + 1) xs) (sym is)

module _ (value : Bool) (places : List Place) (i : ℕ) (place : Place) (free : List (List Bool)) (below : i < length places) (is : place ≡ get_or places i place) where
  pub can_turn-here : CanTurnPlaces value (drop i places) free → IsInTier free place × (is_free_at free place ≡ not value) × CanTurnPlaces value (drop (i + 1) places) (with_place value place free)
  unfolding CanTurnPlaces
  can_turn-here can = subst (λ rest. CanTurnPlaces value rest free) (rest_at places i place below is) can

  pub with_places-here : with_places value (drop i places) free ≡ with_places value (drop (i + 1) places) (with_place value place free)
  unfolding with_places
  with_places-here = ap (λ rest. with_places value rest free) (rest_at places i place below is)

pub with_places-end : (value : Bool) (places : List Place) (i : ℕ) (free : List (List Bool)) → length places ≤ i → with_places value (drop i places) free ≡ free
unfolding with_places
with_places-end value places i free past = ap (λ rest. with_places value rest free) (drop_all i places past)

module _ {A : Type 0} where
  pub with_blocks-none : (blocks : List (NewBlock A)) (devices : Devices) → length blocks ≡ 0 → with_blocks blocks devices ≡ devices
  unfolding with_blocks
  with_blocks-none [] devices none = refl
  with_blocks-none (block ∷ blocks) devices none = absurd (omega (arith, none))

  pub with_blocks-first : (blocks : List (NewBlock A)) (block : NewBlock A) (later : List (NewBlock A)) (devices : Devices) → blocks ≡ block ∷ later
      → with_blocks blocks devices ≡ with_blocks later (insert devices (block.place.tier, block.place.place) block.bytes.items)
  unfolding with_blocks
  with_blocks-first blocks block later devices is = ap (λ bs. with_blocks bs devices) is

-- each of the blocks so far has room, and the next one too
pub rooms_more : {A : Type 0} (blocks : List (NewBlock A)) (old new : List TierShown) (i : ℕ) (block : NewBlock A) → block ≡ get_or blocks i block
    → ((other : Place) → HasRoomAt old other → HasRoomAt new other) → HasRoomAt new block.place
    → ((k : ℕ) (d : NewBlock A) → k < i → HasRoomAt old (get_or blocks k d).place) → i < length blocks
    → (k : ℕ) (d : NewBlock A) → k < i + 1 → HasRoomAt new (get_or blocks k d).place
rooms_more blocks old new i block is kept made before within k d below = elim (cases_lt k i) [
  | inl earlier ↦ kept (get_or blocks k d).place (before k d earlier)
  | inr here ↦
      let same : k ≡ i = omega arith in
      subst (λ n. HasRoomAt new (get_or blocks n d).place) (sym same) (subst (λ b. HasRoomAt new b.place) (is ∙ get_or_default blocks i block d within) made)
]
