pub mod Calls
pub mod Restored
pub mod Standing
pub mod Renewing
pub mod Keeping
pub mod Faults
pub mod Admitting
