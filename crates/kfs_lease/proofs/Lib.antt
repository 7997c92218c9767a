pub mod Grants
pub mod LeasesInForce
pub mod ListLemmas
pub mod PathParts
pub mod PathSteps
pub mod RowsLemmas
pub mod WriterLeases
