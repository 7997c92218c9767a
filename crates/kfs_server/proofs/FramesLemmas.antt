pub mod Reads
pub mod Heads
pub mod OneCut
