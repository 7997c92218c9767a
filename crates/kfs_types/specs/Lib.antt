pub mod Kept
pub mod Nested
pub mod Padded
pub mod Room
pub mod Views
pub mod Moves
