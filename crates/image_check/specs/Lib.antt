-- What the image check counts.
pub mod Check
