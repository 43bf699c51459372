-- Why it holds.
pub mod Sums
pub mod Near
pub mod Turned
