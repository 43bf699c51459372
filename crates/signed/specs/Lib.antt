-- How a held limit is read.
pub mod Limits
