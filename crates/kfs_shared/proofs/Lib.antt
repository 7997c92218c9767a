pub mod InTurn
pub mod Landed
pub mod TurnsLemmas
pub mod CrewLemmas
pub mod BatchLemmas
