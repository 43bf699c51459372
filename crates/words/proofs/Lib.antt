-- Why it holds: the laws of joined bytes and of counts.
pub mod Words
pub mod Counts
