-- Recipes as records of an image.
pub mod Record
pub mod Encode
pub mod Decode
