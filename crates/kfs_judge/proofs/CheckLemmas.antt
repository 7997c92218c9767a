-- Lemmas on what checks read and find.
pub mod Failing
pub mod Lists
pub mod Looking
pub mod Groups
pub mod Entering
