pub mod Machine
pub mod Standing
pub mod Group
pub mod Room
pub mod Looking
pub mod Transcript
pub mod Onward
pub mod Running
