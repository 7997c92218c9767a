-- Lemmas on moves.
pub mod MadeMoves
pub mod MoveSets
pub mod MoveTests
