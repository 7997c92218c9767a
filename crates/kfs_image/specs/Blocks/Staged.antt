-- A change of the tiers that is to be made together with another one.
use Rattle.std.specs.Prelude.{◌≡◌, List, All, vec_len}
use Rattle.kfs_model.specs.Limits.{block_size}
use Rattle.kfs_image.specs.Tier.Tiers.{TiersShown, IsInTier, CanMove}
use Rattle.kfs_image.specs.declared.blocks.fill.Moves.{Moves}
use Rattle.kfs_image.specs.declared.tier.tiers.NewBlock.{NewBlock}

-- the tiers can make the change
pub record CanTurn {A : Type 0} (tiers : TiersShown) (moves : Moves A) (written : List (NewBlock A)) : Type 0 where
  pub places : CanMove tiers.free moves.given.items moves.taken.items
  pub in_tier : All (λ b. IsInTier tiers.free b.place) written
  pub whole : All (λ b. vec_len b.bytes ≡ block_size) written
