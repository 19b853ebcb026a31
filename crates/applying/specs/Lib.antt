-- Answers left in slots.
pub mod Left
