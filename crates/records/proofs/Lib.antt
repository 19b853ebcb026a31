-- Encoding and decoding are each other's inverses.
pub mod Shapes
pub mod There
pub mod Back
pub mod Bytes
pub mod Sizes
pub mod Descend
pub mod Examples
