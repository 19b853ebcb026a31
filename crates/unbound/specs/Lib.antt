-- The scan for an unbound `#`.
pub mod Scan
