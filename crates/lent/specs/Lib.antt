-- The tables that cipher calls are lent.
pub mod Lent
