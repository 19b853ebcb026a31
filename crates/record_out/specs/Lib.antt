-- Bytes written into a buffer.
pub mod Put
