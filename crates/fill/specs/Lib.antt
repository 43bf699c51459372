-- The rows of a candidate.
pub mod Rows
