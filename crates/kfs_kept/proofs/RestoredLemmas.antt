-- Lemmas on states that are saved and restored.
pub mod SavedStates
