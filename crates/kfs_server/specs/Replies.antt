pub mod Reply
pub mod Views
pub mod Refusals
