-- Lemmas on hands.
pub mod Hands
