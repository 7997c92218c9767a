pub mod Frame
pub mod Begun
