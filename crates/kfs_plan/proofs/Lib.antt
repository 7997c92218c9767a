-- Lemmas on the comparison of a plan, and on verdicts.
pub mod MarkedRuns
pub mod RowsCompared
pub mod PlanChecked
pub mod Verdicts
pub mod SameFindings
