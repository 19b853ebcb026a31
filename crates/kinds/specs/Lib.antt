-- What a call's kind tells.
pub mod Tables
