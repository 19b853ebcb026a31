-- The checks in their order.
pub mod Order
pub mod Cleared
