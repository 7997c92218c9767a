-- Lemmas on tests in parts, and on saved images that are read again.
pub mod LeastOfParts
pub mod JoinedPlaces
pub mod JoinedRules
pub mod Cleaned
pub mod SavedImages
