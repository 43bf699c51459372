-- Why it holds: the laws of an edited row, by topic.
pub mod Limits
pub mod Lent
