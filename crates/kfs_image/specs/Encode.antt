pub mod Rows
pub mod Runs
