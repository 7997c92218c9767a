pub mod Faults
pub mod SavedImages
