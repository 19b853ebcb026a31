-- Laws of preparing.
pub mod Giving
pub mod Deciding
pub mod Unique
