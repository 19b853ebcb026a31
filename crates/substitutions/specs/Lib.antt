-- Annex А of document 003.
pub mod Tables
