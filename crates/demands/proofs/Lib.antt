-- Demand 3 with the cipher calls of the standard.
pub mod Valued
pub mod Real
