-- Laws of the definitions that every layer cites.
pub mod Cases
pub mod Choices
pub mod Delivering
pub mod Places
pub mod Runs
pub mod Unique
