-- Folding changes no meaning, and folds all that it may.
pub mod Binds
pub mod Meaning
pub mod Constants
pub mod Left
pub mod TopDown
pub mod Plain
pub mod Refusals
pub mod Within
pub mod Examples
