pub mod Blocks
pub mod Fill
pub mod Moves
pub mod Staged
pub mod Walks
