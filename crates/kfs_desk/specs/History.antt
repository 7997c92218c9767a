pub mod Least
pub mod Legal
pub mod Runs
