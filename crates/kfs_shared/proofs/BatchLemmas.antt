pub mod Answered
pub mod Batches
pub mod OneTurn
