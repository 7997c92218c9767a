-- Lemmas on states that are saved and restored.
pub mod OneAnswer
pub mod Verdicts
pub mod ClientRows
pub mod Encoded
pub mod LeaseFaults
pub mod ReadFaults
