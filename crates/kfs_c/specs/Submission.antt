pub mod Submission
pub mod Told
