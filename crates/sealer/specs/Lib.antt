-- What a sealer does to a block.
pub mod Widths
pub mod Sealing
