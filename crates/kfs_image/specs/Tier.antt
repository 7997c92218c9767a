pub mod Blocks
pub mod Places
pub mod Slots
pub mod Tier
pub mod TierViews
pub mod Tiers
pub mod Unused
pub mod Words
