pub mod BlockWalks
pub mod EditedPlaces
pub mod FilledBlocks
pub mod HeldBlocks
pub mod ReadAcross
pub mod ReadBytes
