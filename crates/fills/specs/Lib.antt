-- Where a filled text ends.
pub mod Ended
