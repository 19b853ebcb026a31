pub mod Spelling
pub mod Rooms
