-- Laws of sizing and writing.
pub mod Sizing
