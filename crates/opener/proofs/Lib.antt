-- What every opener keeps.
pub mod Sizes
