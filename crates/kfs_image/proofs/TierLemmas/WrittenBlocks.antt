-- Blocks of the devices lie in their tiers and are whole once blocks that do are written.
use Rattle.std.proofs.Common.{◌≡◌, ℕ, ◌<◌, ◌∙◌, cond, All, List, [], ◌∷◌, length, Some, refl, sym, ap, subst}
use Rattle.std.specs.declared.cmp.Ordering.{Ordering}
use Rattle.std.specs.declared.cmp.Ordering.TheVariants.{Less, Equal, Greater}
use Rattle.std.specs.Ordering.{is_eq}
use Rattle.std.proofs.lemmas.List.Elements.{All-head, All-tail}
use Rattle.kfs_model.specs.Limits.{block_size}
use Rattle.kfs_model.specs.Table.{numbers, pairs, get, insert}
use Rattle.kfs_model.specs.Placement.{TierSizes, tier_size}
use Rattle.kfs_model.proofs.TableLaws.{get-insert}
use Rattle.kfs_model.specs.Device.Device.{Devices, AreBlocks}
use Rattle.kfs_image.specs.declared.tier.tiers.NewBlock.{NewBlock}
use Rattle.kfs_image.specs.Tier.Tiers.{with_blocks}

-- what a block that is there says of its place
module _ (sizes : TierSizes) (devices : Devices) (P : ℕ × ℕ → List ℕ → Type 0) (each : (key : ℕ × ℕ) (bytes : List ℕ) → get devices key ≡ Some bytes → P key bytes) where
  each-insert : (written : ℕ × ℕ) (new : List ℕ) → P written new → (key : ℕ × ℕ) (bytes : List ℕ) → get (insert devices written new) key ≡ Some bytes → P key bytes
  each-insert written new holds key bytes there = at ((pairs numbers numbers).compare key written) refl (sym (get-insert devices written new key) ∙ there)
    where
      same : (o : Ordering) → (pairs numbers numbers).compare key written ≡ o → o ≡ Equal → Some new ≡ Some bytes → P key bytes
      same o is equal found =
          let keys = (pairs numbers numbers).exact key written (is ∙ equal) in
          let all : new ≡ bytes = cc in
          subst (λ k. P k bytes) (sym keys) (subst (P written) all holds)

      at : (o : Ordering) → (pairs numbers numbers).compare key written ≡ o → cond (is_eq ((pairs numbers numbers).compare key written)) (Some new) (get devices key) ≡ Some bytes → P key bytes
      at Less is found = each key bytes (sym (ap (λ r. cond (is_eq r) (Some new) (get devices key)) is) ∙ found)
      at Equal is found = same Equal is refl (sym (ap (λ r. cond (is_eq r) (Some new) (get devices key)) is) ∙ found)
      at Greater is found = each key bytes (sym (ap (λ r. cond (is_eq r) (Some new) (get devices key)) is) ∙ found)

module _ {A : Type 0} (sizes : TierSizes) where
  pub AreBlocks-with_blocks : (blocks : List (NewBlock A)) (devices : Devices) → All (λ b. b.place.place < tier_size sizes b.place.tier) blocks → All (λ b. length b.bytes.items ≡ block_size) blocks
      → AreBlocks sizes devices → AreBlocks sizes (with_blocks blocks devices)
  unfolding with_blocks
  AreBlocks-with_blocks [] devices in_tier whole are = are
  AreBlocks-with_blocks (block ∷ blocks) devices in_tier whole are =
      let key : ℕ × ℕ = (block.place.tier, block.place.place) in
      let bytes = block.bytes.items in
      AreBlocks-with_blocks blocks (insert devices key bytes) (All-tail (λ (b : NewBlock A). b.place.place < tier_size sizes b.place.tier) block blocks in_tier) (All-tail (λ (b : NewBlock A). length b.bytes.items ≡ block_size) block blocks whole)
      (record {
        in_tier = λ tier place found there.
            each-insert sizes devices (λ k b. k.1 < tier_size sizes k.0) (λ k b is. are.in_tier k.0 k.1 b is) key bytes (All-head (λ (b : NewBlock A). b.place.place < tier_size sizes b.place.tier) block blocks in_tier) (tier, place) found there;
        full = λ tier place found there.
            each-insert sizes devices (λ k b. length b ≡ block_size) (λ k b is. are.full k.0 k.1 b is) key bytes (All-head (λ (b : NewBlock A). length b.bytes.items ≡ block_size) block blocks whole) (tier, place) found there;
      })
