-- A folded record in the output.
pub mod Written
