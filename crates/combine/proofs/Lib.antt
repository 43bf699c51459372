-- Why it holds: the laws of a block that is set, by topic.
pub mod Combined
pub mod Filled
pub mod Rows
pub mod Session
