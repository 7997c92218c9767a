pub mod Events
pub mod Since
