-- The need of each call.
pub mod Points
