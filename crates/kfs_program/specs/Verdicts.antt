pub mod HeldVerdicts
pub mod Holding
