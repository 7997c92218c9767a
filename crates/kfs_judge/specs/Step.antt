pub mod Entered
pub mod Written
pub mod Rows
pub mod Nets
pub mod FileSizes
