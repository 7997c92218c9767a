-- Lemmas on calls that were made.
pub mod Outcomes
pub mod RestoreLemmas
