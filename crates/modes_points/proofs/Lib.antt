-- Worked examples as closed equations.
pub mod Sharing
pub mod Gamma
pub mod Examples
