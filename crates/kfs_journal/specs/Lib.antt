pub mod Disk
pub mod Draft
pub mod Format
pub mod Journal
pub mod Memory
pub mod Tear
