-- Laws of the code.
pub mod Bytes
