-- Lemmas on the rows of a state.
pub mod FewOfEach
pub mod RowCounts
pub mod FittingExtents
pub mod FittingRows
