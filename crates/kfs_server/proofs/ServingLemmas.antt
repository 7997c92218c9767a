pub mod Runs
pub mod Merged
pub mod Due
pub mod Crashes
pub mod Sessions
pub mod Looks
pub mod Onward
pub mod Running
