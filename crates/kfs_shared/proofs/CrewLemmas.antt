pub mod Crews
pub mod Meetings
pub mod Shares
pub mod Sums
pub mod Together
pub mod Work
