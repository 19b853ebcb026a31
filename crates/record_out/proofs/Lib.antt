-- Laws of writing into a buffer.
pub mod Put
