-- Lemmas on the rows of clients.
pub mod Rows
