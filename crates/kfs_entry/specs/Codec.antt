pub mod Reading
pub mod RowList
pub mod Headers
