pub mod LookUp
pub mod Reading
pub mod Found
pub mod Views
