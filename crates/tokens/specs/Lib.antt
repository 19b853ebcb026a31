-- The pieces that a text is read by.
pub mod Tokens
