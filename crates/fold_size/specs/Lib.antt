-- A record folded: its size, and its bytes.
pub mod Folded
