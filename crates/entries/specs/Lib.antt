-- What a host sees.
pub mod Seen
