pub mod Rows
pub mod Blocks
