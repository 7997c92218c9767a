-- Lemmas on what a draft shows.
pub mod Overlays
pub mod Shifts
pub mod Fews
