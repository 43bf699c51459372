-- Why it holds: laws of the walk, by topic.
pub mod Tested
pub mod Drawing
pub mod Passed
