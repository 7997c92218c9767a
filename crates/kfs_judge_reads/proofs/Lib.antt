-- Lemmas on what is read, on climbs, and on what a draft shows.
pub mod ReadsAgree
pub mod Recording
pub mod OneLook
pub mod Climbing
pub mod Ways
pub mod DraftLemmas
