-- Preparing a text.
pub mod Ended
