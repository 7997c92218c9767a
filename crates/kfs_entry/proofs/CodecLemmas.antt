-- Lemmas on what was read.
pub mod RowPush
pub mod Found
