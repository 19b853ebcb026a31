-- What an opener does to a block.
pub mod Opening
