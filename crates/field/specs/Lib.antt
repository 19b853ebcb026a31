-- GF(2^8), columns of bytes, and the mixing of a column.
pub mod Xor
pub mod Field
pub mod Column
pub mod Mixing
