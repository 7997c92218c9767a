pub mod Frames
pub mod LookUps
pub mod Replies
pub mod Asking
pub mod Examples
pub mod Serving
