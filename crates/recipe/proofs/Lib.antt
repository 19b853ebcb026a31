-- What joins preparing and running.
pub mod Scan
pub mod Demand
pub mod Room
pub mod Reach
pub mod Zero
pub mod Orders
pub mod Computing
pub mod Points
pub mod Examples
