-- Worked examples as closed equations.
pub mod Points
pub mod Figures
