-- Why it holds.
pub mod Pairs
pub mod Steps
