pub mod Numbers
pub mod Tables
pub mod Groups
pub mod Rest
