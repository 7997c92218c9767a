pub mod Calls
pub mod Landings
pub mod Passes
pub mod Sharing
pub mod Turns
pub mod Crew
pub mod Batch
