pub mod Counts
pub mod EditedRows
pub mod EditAt
mod FreshRows
pub mod HeaderPages
pub mod Holders
mod HowOften
pub mod InOrder
pub mod Indexes
pub mod NameEdits
pub mod NameOrder
pub mod NextNames
pub mod NodeEdits
mod OneEdit
mod RowsAfter
pub mod SortedRows
