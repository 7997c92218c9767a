pub mod Mode
pub mod Clients
pub mod Access
pub mod AccessExamples
