pub mod Crew
pub mod Shares
pub mod Tasks
