pub mod Bytes
pub mod Transcript
pub mod Example
pub mod Listing
pub mod PlanLine
pub mod Progress
pub mod Session
pub mod Views
