-- What the code of the stream modes is stated with.
pub mod Gammas
