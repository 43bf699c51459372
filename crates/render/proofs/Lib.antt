-- Why it holds.
pub mod Strips
