-- Laws of trees, and the table of calls at each kind.
pub mod Bytes
pub mod Table
pub mod Examples
pub mod Read
