-- Closed equations that take seconds.
pub mod Long
