-- The modes, and what each cipher call answers.
pub mod Blocks
pub mod Stream
pub mod Chain
pub mod Fill
pub mod Mac
pub mod Cell
