-- What the reader of texts gives back.
pub mod Reader
