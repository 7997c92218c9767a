pub mod Lists
pub mod Stages
pub mod Told
pub mod Turns
