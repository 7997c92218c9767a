pub mod LeastPlaces
pub mod Longer
pub mod Parts
pub mod Runs
pub mod SameAsked
