pub mod AskedLeases
pub mod PlanMade
pub mod Rows
pub mod Walks
