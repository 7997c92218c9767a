-- Lemmas on what was read and written.
pub mod Layouts
pub mod CallLaws
pub mod MoveRows
pub mod Decoded
pub mod AnswerLaws
pub mod StateLaws
pub mod DecodedState
pub mod OneStateAnswer
pub mod Zips
