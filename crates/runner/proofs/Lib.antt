-- Laws of running.
pub mod Sounding
pub mod Giving
pub mod Room
pub mod Unique
pub mod Wrong
