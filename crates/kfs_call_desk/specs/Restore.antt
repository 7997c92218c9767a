pub mod Saved
pub mod Restored
pub mod Told
