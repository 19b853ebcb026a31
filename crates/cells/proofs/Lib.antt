-- Laws of bytes and columns.
pub mod Laws
