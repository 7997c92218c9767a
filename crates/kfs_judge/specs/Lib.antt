pub mod Views
pub mod Walks
pub mod EntriesEntered
pub mod Check
pub mod Step
