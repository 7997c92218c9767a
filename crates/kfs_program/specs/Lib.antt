pub mod Answer
pub mod Exit
pub mod Lines
pub mod Planning
pub mod Report
pub mod Engine
pub mod Verdicts
pub mod Images
