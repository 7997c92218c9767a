-- Lemmas on rows and their tests.
pub mod Tests
pub mod NameTests
pub mod OneLeast
pub mod Neighbours
pub mod NameCounts
pub mod SharedPlaces
pub mod Doubling
pub mod Parents
pub mod NodeRules
pub mod OneFinding
