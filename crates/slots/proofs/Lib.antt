-- Laws of answers in slots.
pub mod Settling
pub mod Standing
pub mod Unique
