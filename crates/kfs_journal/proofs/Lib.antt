mod Fields
pub mod Moments
mod Records
mod Heads
mod Meaning
mod Gates
mod Renewal
mod Puts
mod Changes
mod Opens
mod MadeCalls
mod TornCalls
mod Growth
mod Drafts
mod Parts
