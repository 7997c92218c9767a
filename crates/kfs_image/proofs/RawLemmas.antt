-- Lemmas on rows that are made one after another.
pub mod Inserted
pub mod RawRows
pub mod Pushed
pub mod RawBlocks
