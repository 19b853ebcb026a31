-- What every sealer keeps.
pub mod Sizes
