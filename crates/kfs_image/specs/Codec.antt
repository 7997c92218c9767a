pub mod RawImages
pub mod Headers
pub mod Extents
pub mod Answers
