pub mod Faults
pub mod Applied
