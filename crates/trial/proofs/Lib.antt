-- Why it holds: the laws of a trial, by topic.
pub mod Blocks
pub mod Sound
