-- Laws of the reader of texts.
pub mod Steps
pub mod Literals
pub mod Calls
pub mod Answers
pub mod Decoded
