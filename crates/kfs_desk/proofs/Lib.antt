pub mod Answered
pub mod Calls
pub mod ClientRows
pub mod Dockets
pub mod GrantedNumbers
pub mod Histories
pub mod LandedBytes
pub mod Landing
pub mod NumberSet
pub mod Openings
mod WholePieces
pub mod Sent
pub mod Views
pub mod HistoryLemmas
pub mod FillLemmas
pub mod VerdictLemmas
