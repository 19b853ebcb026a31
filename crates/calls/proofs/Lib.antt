-- Laws of whole calls.
pub mod Ways
