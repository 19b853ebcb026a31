-- Laws of reading and spelling.
pub mod Examples
pub mod Standing
pub mod Table
pub mod Width
pub mod Leaves
pub mod Spelt
pub mod LeavesBack
pub mod Back
pub mod Numbers
pub mod Exactly
pub mod Unbound
pub mod Offsets
pub mod Ways
pub mod Packed
pub mod Allowed
pub mod Blocked
pub mod Injective
