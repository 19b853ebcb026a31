-- Preparing and running as wholes.
pub mod Outcome
pub mod Prepare
pub mod Run
pub mod Keeps
