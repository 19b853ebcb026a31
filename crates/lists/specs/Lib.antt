-- Lists of values.
pub mod Entries
pub mod Given
pub mod Good
pub mod Seek
