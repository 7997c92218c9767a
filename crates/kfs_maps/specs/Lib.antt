pub mod Pages
pub mod Chunks
