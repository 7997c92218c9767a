-- When a move can be made, whatever the other ones are.
use Rattle.std.specs.Prelude.{◌≡◌, ◌<◌, true, false, is_none}
use Rattle.kfs_model.specs.Migration.{Move, source}
use Rattle.kfs_model.specs.Placement.{TierSizes, Placement, tier_size, is_free}
use Rattle.kfs_model.specs.Table.{get}

-- the move's block lies somewhere, and its target exists and is free
pub record IsPossible (sizes : TierSizes) (placement : Placement) (m : Move) : Type 0 where
  pub mapped : is_none (get placement (source m)) ≡ false
  pub inside : m.target.place < tier_size sizes m.target.tier
  pub free : is_free placement m.target ≡ true
