-- Laws of walking a list.
pub mod Entries
pub mod Slots
pub mod Walking
pub mod Finding
pub mod Untaken
