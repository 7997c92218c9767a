pub mod Bytes
pub mod Fill
pub mod FillOf
