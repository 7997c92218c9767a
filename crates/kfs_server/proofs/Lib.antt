pub mod FramesLemmas
pub mod LookUpsLemmas
pub mod ServingLemmas
