pub mod LeasedRuns
pub mod PlansMade
pub mod NamedNumbers
pub mod FewRows
pub mod ChangedKeys
pub mod PlanLength
pub mod ViewWalks
pub mod OwnLogs
