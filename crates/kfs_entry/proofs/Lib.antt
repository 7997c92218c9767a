-- Lemmas on what was decoded and encoded.
pub mod RowLaws
pub mod Spans
pub mod Answered
pub mod DecodedLog
pub mod LogsRead
pub mod DecodedPlan
pub mod Ranges
pub mod CodecLemmas
