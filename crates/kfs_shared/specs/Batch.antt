pub mod Answers
pub mod Back
pub mod Batch
pub mod Jobs
pub mod Settled
