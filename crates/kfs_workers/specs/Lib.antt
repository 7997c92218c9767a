pub mod Claims
pub mod Holding
pub mod Script
