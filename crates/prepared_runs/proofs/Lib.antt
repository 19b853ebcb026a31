-- Preparing and running joined.
pub mod Demand
pub mod P8
pub mod Wrong
