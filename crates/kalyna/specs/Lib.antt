-- Document 003, section 6.
pub mod State
pub mod Round
pub mod Block
pub mod Keys
