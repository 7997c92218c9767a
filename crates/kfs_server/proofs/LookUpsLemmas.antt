pub mod Apart
pub mod Reads
pub mod Listings
pub mod Contents
pub mod Held
pub mod OwnLogs
