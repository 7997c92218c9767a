-- Lemmas on the words that take a few lines.
pub mod Lines
pub mod Planned
pub mod Told
pub mod EngineLemmas
pub mod VerdictsLemmas
pub mod ImagesLemmas
-- Lemmas on the texts of replies.
pub mod Texts
