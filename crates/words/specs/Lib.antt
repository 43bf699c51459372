-- Bytes joined to words.
pub mod Words
