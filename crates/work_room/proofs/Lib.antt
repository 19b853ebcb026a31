-- Laws of clearing the work room.
pub mod Zeros
pub mod Maximum
