pub mod Buffer
pub mod Starts
pub mod Edits
pub mod Tables
pub mod Joined
pub mod Overlays
