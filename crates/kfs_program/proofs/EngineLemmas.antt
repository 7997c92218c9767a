-- Lemmas on sessions.
pub mod SessionLoops
pub mod Held
pub mod HeldReplies
pub mod Listed
pub mod PlanAnswers
pub mod PlanLines
