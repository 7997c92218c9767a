-- Lemmas on images from bytes.
pub mod Loads
