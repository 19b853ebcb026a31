-- What a call tells.
pub mod Told
