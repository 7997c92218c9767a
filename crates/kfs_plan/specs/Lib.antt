pub mod PlanCheck
pub mod Judging
pub mod Judged
