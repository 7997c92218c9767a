pub mod Values
pub mod Edits
pub mod Groups
pub mod Shown
