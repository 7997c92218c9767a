-- Lemmas on cuts, words and numbers.
pub mod BothWords
pub mod Cuts
pub mod FirstPlace
pub mod HeldBytes
pub mod Hexadecimals
pub mod LastWord
pub mod NumbersRead
pub mod Numerals
pub mod WordByWord
pub mod WordsCut
-- Lemmas on the reading of commands.
pub mod Asked
pub mod Landings
pub mod MovesRead
pub mod Readings
pub mod Rows
