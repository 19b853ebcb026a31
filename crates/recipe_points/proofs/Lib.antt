-- Long worked examples of preparing.
pub mod Long
