pub mod ChangedImages
mod EditedImages
pub mod EmptyFills
pub mod FilledImages
mod FreshImage
mod ReleasedBlocks
pub mod KeptTrees
pub mod NetTables
mod ReadFile
pub mod ShownTrees
pub mod TierLemmas
pub mod BlocksLemmas
pub mod CodecLemmas
pub mod RawLemmas
pub mod EncodeLemmas
