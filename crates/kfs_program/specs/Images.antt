pub mod Loading
pub mod Saving
pub mod Showing
