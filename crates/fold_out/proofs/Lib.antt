-- Laws of writing folded records.
pub mod Writing
