-- Lemmas on walks over tables, on runs and extents, and on what is written.
pub mod Walks
pub mod NodeWalks
pub mod Spelled
pub mod Sizes
pub mod Zeros
pub mod RunExtents
