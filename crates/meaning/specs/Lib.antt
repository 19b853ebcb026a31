-- What a recipe means, and folding.
pub mod Mean
pub mod Real
pub mod Fold
pub mod Folded
pub mod Values
pub mod Numbers
