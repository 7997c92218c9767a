-- Lemmas on what an entry reads and changes.
pub mod Entered
pub mod CleanLooks
pub mod ChangedRows
pub mod Payloads
pub mod FileSizes
pub mod ReachedFiles
