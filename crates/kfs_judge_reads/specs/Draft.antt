pub mod Created
pub mod Few
pub mod Overlay
pub mod Shifts
