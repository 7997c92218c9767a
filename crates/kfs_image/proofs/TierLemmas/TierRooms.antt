-- Only places of the tier have room, whichever change a tier's blocks undergo.
use Rattle.std.proofs.Common.{◌≡◌, ℕ, ◌<◌, Bool, true, false, cond, not, List, length, Option, Some, None, Result, Ok, Err, sym, subst, inl, inr}
use Rattle.std.specs.Prelude.{IsSome, OnOk, OnErr}
use Rattle.std.specs.Ordering.{nat_cmp, eq_by_cmp}
use Rattle.std.proofs.lemmas.Bool.{cases_eq}
use Rattle.kfs_model.specs.Table.{empty, get, insert, remove}
use Rattle.kfs_model.proofs.TableLaws.{get-insert, get-remove}
use Rattle.kfs_image.specs.Tier.Blocks.{BlockTable, block_at, HasRoomForBlock, with_room, without_room}
use Rattle.kfs_image.specs.Tier.Tier.{AreInTier}
use Rattle.kfs_image.proofs.TierLemmas.BlockTables.{eq_by_cmp-other}

module _ (places : List Bool) where
  pub AreInTier-empty : AreInTier (record { places = places; blocks = empty })
  unfolding get
  AreInTier-empty = record { in_tier = λ q room. cc }

  -- the blocks before and after a change
  module _ (blocks new : BlockTable) (place : ℕ) (are : AreInTier (record { places = places; blocks = blocks })) where
    as_left : (left : BlockTable) → new ≡ left → AreInTier (record { places = places; blocks = left }) → AreInTier (record { places = places; blocks = new })
    as_left left same = subst (λ t. AreInTier (record { places = places; blocks = t })) (sym same)

    room_before : (slot : Option (List ℕ)) (q : ℕ) → (q ≡ place → ⊥) → HasRoomForBlock (insert blocks place slot) q → HasRoomForBlock blocks q
    room_before slot q other room = subst (λ b. IsSome (cond b (Some slot) (get blocks q))) (eq_by_cmp-other q place other) (subst IsSome (get-insert blocks place slot q) room)

    pub AreInTier-insert : (slot : Option (List ℕ)) → new ≡ insert blocks place slot → place < length places → AreInTier (record { places = places; blocks = new })
    AreInTier-insert slot same within = as_left (insert blocks place slot) same (record {
      in_tier = λ q room.
          elim (cases_eq q place) [
            | inl here ↦ subst (λ p. p < length places) (sym here) within
            | inr other ↦ are.in_tier q (room_before slot q other room)
          ];
    })

    removed : AreInTier (record { places = places; blocks = remove blocks place })
    removed = record { in_tier = λ q room. are.in_tier q (at q (not (eq_by_cmp nat_cmp place q)) (subst IsSome (get-remove blocks place q) room)) }
      where
        at : (q : ℕ) (b : Bool) → IsSome (cond b (get blocks q) None) → HasRoomForBlock blocks q
        at q true room = room
        at q false room = cc

    pub AreInTier-remove : new ≡ remove blocks place → AreInTier (record { places = places; blocks = new })
    AreInTier-remove same = as_left (remove blocks place) same removed

    pub AreInTier-without_room : new ≡ without_room blocks place → AreInTier (record { places = places; blocks = new })
    AreInTier-without_room same = as_left (without_room blocks place) same (by_slot (block_at blocks place))
      where
        by_slot : (slot : Option (List ℕ)) → AreInTier (record { places = places; blocks = elim slot as (λ _. BlockTable) [ None ↦ remove blocks place | Some bytes ↦ blocks ] })
        by_slot None = removed
        by_slot (Some bytes) = are

    -- room was made, or there was no memory for it
    pub AreInTier-after : {E : Type 0} (result : Result (Unit {0}) E) → OnOk result (new ≡ with_room blocks place) → OnErr result (new ≡ blocks) → place < length places → AreInTier (record { places = places; blocks = new })
    AreInTier-after (Ok done) made kept within = AreInTier-insert (block_at blocks place) made within
    AreInTier-after (Err error) made kept within = as_left blocks kept are
