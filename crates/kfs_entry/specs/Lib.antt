pub mod Missing
pub mod Answers
pub mod Codec
