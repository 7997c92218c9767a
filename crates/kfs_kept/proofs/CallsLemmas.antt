-- Lemmas on calls that are kept.
pub mod GroupLaws
pub mod Answering
pub mod OneMore
pub mod OneCall
pub mod OneLead
