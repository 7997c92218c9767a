-- Lemmas on what a walk comes to.
pub mod TreeWalks
pub mod SameNets
pub mod CheckLemmas
pub mod StepLemmas
