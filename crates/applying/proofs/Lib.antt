-- Laws of calls applied in slots.
pub mod Numbering
pub mod Loading
pub mod Dispatch
