-- Opening a block with the inverse mixing moved before the keys.
pub mod Opening
