pub mod Group
pub mod Leads
pub mod Making
pub mod Again
