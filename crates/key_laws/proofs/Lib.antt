-- Laws of the key schedule.
pub mod Stores
pub mod Turns
pub mod Rounds
pub mod Lanes
pub mod Loops
pub mod Schedule
pub mod Filled
pub mod Unique
