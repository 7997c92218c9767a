-- Lemmas on scripts.
pub mod BetweenLandings
pub mod Claimed
pub mod Places
pub mod Replies
pub mod ScriptStates
pub mod Settled
