-- Sizes and suites.
pub mod Suites
