-- What is left of opening after the last mixing.
pub mod Last
