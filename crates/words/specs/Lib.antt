-- A cell as 16-bit pieces.
pub mod Words
