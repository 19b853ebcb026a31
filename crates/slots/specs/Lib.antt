-- Answers in the work room.
pub mod Slots
