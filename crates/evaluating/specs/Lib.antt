-- Evaluating a stretch of an image.
pub mod Stretch
